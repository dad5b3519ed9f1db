use Rattle.std.specs.Prelude.{◌≡◌, Some, slice_get, true}
use Rattle.hop_map.specs.Port.{IsPortOf, runs}
use Rattle.hop_tests.proofs.crowds.walk_and_list.Given as goal

abbrev pub invariant-steps : goal.invariant-steps
invariant-steps g l = IsPortOf l.fn.table l.port × (runs l.port ≡ true) × (slice_get l.fn.table.about.shape.maps 0 ≡ Some l.list.shape)
