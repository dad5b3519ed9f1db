use Rattle.std.specs.Prelude.{◌≡◌, ◌-◌}
use Rattle.hop_map.specs.Private.Listing.{Covers, ReadsMore}
use Rattle.hop_map.proofs.listing.find_last.Given as goal

abbrev pub invariant-down : goal.invariant-down
invariant-down g l = record {
  table : l.lane.table ≡ l.fn.lane.table;
  kept : ReadsMore l.fn.lane.known l.lane.known;
  covers : Covers l.table.about l.map (l.count - l.passed) l.lane.known.locks;
}
