use Rattle.std.specs.Prelude.{◌≡◌, ◌++◌, All, length, map}
use Rattle.hop_map.specs.Port.{known_of}
use Rattle.hop_map.specs.Private.Port.{HasNothing}
use Rattle.hop_map.proofs.Settled.{aside_parts, port_parts}
use Rattle.hop_map.proofs.settling.settle.Given as goal

abbrev pub invariant-taken : goal.invariant-taken
invariant-taken l =
    (l.back.table ≡ l.fn.table.id)
    × (l.yielded ++ l.port-iterator.rest.items ≡ l.fn.ports.items)
    × (l.back.lanes ≡ map known_of l.yielded)
    × All HasNothing l.back.lanes
    × (map aside_parts l.asides.items ≡ map port_parts l.yielded)

abbrev pub invariant-given : goal.invariant-given
invariant-given l =
    (l.back.table ≡ l.fn.table.id)
    × (l.yielded ++ l.aside-iterator.rest.items ≡ l.initial.aside-iterator.rest.items)
    × (map known_of l.settled.items ++ l.back.lanes ≡ l.initial.back.lanes)
    × All HasNothing l.back.lanes
    × (map port_parts l.settled.items ≡ map aside_parts l.yielded)
    × (l.cpu ≡ length l.settled.items)
    × All (λ p. p.table ≡ l.fn.table.id) l.settled.items
