use Rattle.std.specs.Prelude.{◌≡◌, false}
use Rattle.hop_map.specs.Port.{IsPortOf, runs}
use Rattle.hop_tests.proofs.splits.split_all.Given as goal

abbrev pub invariant-levels : goal.invariant-levels
invariant-levels g l = IsPortOf l.fn.table l.port × (runs l.port ≡ false)

abbrev pub invariant-segments : goal.invariant-segments
invariant-segments g l = IsPortOf l.fn.table l.port × (runs l.port ≡ false)
