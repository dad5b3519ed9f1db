use Rattle.std.specs.Prelude.{◌≡◌}
use Rattle.hop_map.specs.Private.Listing.{Part, StandsBelow}
use Rattle.hop_map.proofs.listing.add_placed.Given as goal

abbrev pub invariant-places : goal.invariant-places
invariant-places l = record {
  table : l.lane.table ≡ l.fn.lane.table;
  known : l.lane.known ≡ l.fn.lane.known;
  list : l.list.shape ≡ l.fn.list.shape;
  part : Part l.table.about l.fn.lane.known l.map l.segment l.fn.list.keys l.list.keys (StandsBelow l.table.about l.fn.lane.known l.map l.segment l.place);
}
