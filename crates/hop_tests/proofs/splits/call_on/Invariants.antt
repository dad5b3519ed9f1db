use Rattle.std.specs.Prelude.{◌≡◌, false}
use Rattle.hop_map.specs.Port.{IsPortOf, runs}
use Rattle.hop_tests.proofs.splits.call_on.Given as goal

abbrev pub invariant-rounds : goal.invariant-rounds
invariant-rounds g l = IsPortOf l.fn.table l.port × (runs l.port ≡ false)
