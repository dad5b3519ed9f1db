use Rattle.std.specs.Prelude.{◌≡◌, false}
use Rattle.hop_map.specs.Port.{IsPortOf, runs}
use Rattle.hop_tests.proofs.finds.find_often.Given as goal

abbrev pub invariant-finds : goal.invariant-finds
invariant-finds l = IsPortOf l.fn.table l.port × (runs l.port ≡ false)
