use Rattle.std.specs.Prelude.{◌≡◌, Some, slice_get}
use Rattle.hop_map.specs.Port.{IsPortOf}
use Rattle.hop_tests.proofs.listings.list_often.Given as goal

abbrev pub invariant-lists : goal.invariant-lists
invariant-lists g l = IsPortOf l.fn.table l.port × (slice_get l.fn.table.about.shape.maps 0 ≡ Some l.list.shape)
