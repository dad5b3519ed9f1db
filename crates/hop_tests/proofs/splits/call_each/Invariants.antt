use Rattle.std.specs.Prelude.{◌≡◌, true}
use Rattle.hop_map.specs.Port.{IsPortOf, runs}
use Rattle.hop_tests.proofs.splits.call_each.Given as goal

abbrev pub invariant-calls : goal.invariant-calls
invariant-calls g l = IsPortOf l.fn.table l.port × (runs l.port ≡ true)
