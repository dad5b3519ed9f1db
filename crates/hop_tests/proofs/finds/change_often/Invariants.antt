use Rattle.std.specs.Prelude.{◌≡◌, true}
use Rattle.hop_map.specs.Port.{IsPortOf, runs}
use Rattle.hop_tests.proofs.finds.change_often.Given as goal

abbrev pub invariant-changes : goal.invariant-changes
invariant-changes g l = IsPortOf l.fn.table l.port × (runs l.port ≡ true)
