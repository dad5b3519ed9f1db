use Rattle.std.specs.Prelude.{◌≡◌}
use Rattle.hop_map.specs.Private.Listing.{Opens}
use Rattle.hop_map.proofs.Adding.{Passed}
use Rattle.hop_map.proofs.listing.add_segment.Given as goal

abbrev pub invariant-list : goal.invariant-list
invariant-list l = record {
  table : l.lane.table ≡ l.fn.lane.table;
  known : l.lane.known ≡ l.fn.lane.known;
  list : l.list.shape ≡ l.fn.list.shape;
  opens : Opens l.table.about l.fn.lane.known l.map l.segment l.fn.list.keys;
  passed : Passed l.table.about l.fn.lane.known l.map l.segment l.fn.list.keys opens l.list.keys l.at l._passed;
}
