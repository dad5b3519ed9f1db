use Rattle.std.specs.Prelude.{◌≡◌, length}
use Rattle.hop_map.specs.Port.{AreBatches}
use Rattle.hop_map.proofs.store.new_batches.Given as goal

abbrev pub invariant-maps : goal.invariant-maps
invariant-maps l = AreBatches l.fn.table.about l.fn.lane.known l.map l.batches.items × (l.maps ≡ length l.fn.table.about.shape.maps)
