use Rattle.std.specs.Prelude.{◌≡◌, ◌-◌}
use Rattle.hop_map.specs.Private.Listing.{Gathers, Covers, given_back, NotesLocks, LocksMore}
use Rattle.hop_map.proofs.listing.list_keys.Given as goal

abbrev pub invariant-segments : goal.invariant-segments
invariant-segments g l = record {
  table : l.lane.table ≡ l.fn.lane.table;
  list : l.list.shape ≡ l.fn.list.shape;
  locks : LocksMore l.fn.lane.known l.lane.known;
  noted : NotesLocks l.table.about l.fn.lane.known l.map l.segment l.lane.known;
  gathers : Gathers l.table.about l.lane.known l.map l.segment l.list.keys;
}

abbrev pub invariant-others : goal.invariant-others
invariant-others g l = record {
  table : l.lane.table ≡ l.initial.lane.table;
  covers : Covers l.table.about l.map (l.last - l.left) l.lane.known.locks;
  kept : l.lane.known ≡ record l.initial.lane.known { locks = l.lane.known.locks; readings = l.lane.known.readings; tally = l.lane.known.tally };
  gives : given_back l.lane.known.locks l.lane.known.tally ≡ given_back l.initial.lane.known.locks l.initial.lane.known.tally;
}
