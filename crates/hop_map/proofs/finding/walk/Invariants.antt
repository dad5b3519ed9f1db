use Rattle.std.specs.Prelude.{◌≡◌, ◌≤◌, List, []}
use Rattle.hop_words.specs.declared.known.Known.{Known}
use Rattle.hop_words.specs.declared.known.Sight.{Sight}
use Rattle.hop_map.specs.Private.Finding.{Approaching}
use Rattle.hop_map.proofs.finding.walk.Given as goal

abbrev pub invariant-way : goal.invariant-way
invariant-way l = record {
  table : l.lane.table ≡ l.fn.lane.table;
  near : (k : Known) → Approaching l.table.about k l.fn.from.map l.fn.from.home l.fn.from.way l.fn.from.stamp [] l.fn.lane.known →
      (sights : List Sight) × Approaching
      l.table.about k l.fn.from.map l.fn.from.home l.way l.stamp sights l.lane.known;
  idle : l.lane.known.locks ≡ [];
  so_far : l._level ≤ l.way.level;
}
