use Rattle.std.specs.Prelude.{◌≡◌}
use Rattle.hop_map.specs.Private.Locks.{StampOnWay}
use Rattle.hop_map.proofs.waiting.seek.Given as goal

abbrev pub invariant-way : goal.invariant-way
invariant-way g l = record {
  table : l.lane.table ≡ l.fn.lane.table;
  at : StampOnWay l.table.about l.fn.lane.known l.map l.home l.way l._level l.stamp l.lane.known;
}
