use Rattle.std.specs.Prelude.{◌≡◌, ◌++◌, All, map}
use Rattle.hop_map.specs.Port.{known_of}
use Rattle.hop_map.specs.Private.Port.{IsFree}
use Rattle.hop_map.proofs.closed.gather.Given as goal

abbrev pub invariant-ports : goal.invariant-ports
invariant-ports l =
    (l.back.table ≡ l.fn.table.id)
    × (l.yielded ++ l.port-iterator.rest.items ≡ l.fn.ports.items)
    × (l.back.lanes ≡ map known_of l.yielded)
    × All IsFree l.back.lanes
