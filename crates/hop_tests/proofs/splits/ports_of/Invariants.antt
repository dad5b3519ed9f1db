use Rattle.std.specs.Prelude.{◌≡◌, ◌++◌, All}
use Rattle.hop_map.specs.Port.{IsPortOf}
use Rattle.hop_tests.proofs.splits.ports_of.Given as goal

abbrev pub invariant-backs : goal.invariant-backs
invariant-backs l = (l.yielded ++ l.back-iterator.rest.items ≡ l.fn.backs.items) × All (IsPortOf l.fn.table) l.ports.items
