use Rattle.std.specs.Prelude.{◌≡◌, ◌<◌, ℕ}
use mathlib.Core.Option.{some}
use lib.ListN.{get_elem?}
use Rattle.hop_map.specs.Port.{Port}
use Rattle.hop_tests.proofs.stores.in_order.Given as goal

abbrev pub invariant-ports : goal.invariant-ports
invariant-ports l = (k : ℕ) → k < l.place → (p : Port) × (get_elem? l.ports k ≡ some p) × (p.known.cpu ≡ k)
