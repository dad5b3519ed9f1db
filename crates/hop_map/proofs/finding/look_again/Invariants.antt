use Rattle.std.specs.Prelude.{◌≡◌}
use Rattle.hop_words.specs.declared.known.Known.{Known}
use Rattle.hop_map.specs.Private.Finding.{SeesDisturbances}
use Rattle.hop_map.proofs.finding.look_again.Given as goal

abbrev pub invariant-tries : goal.invariant-tries
invariant-tries g l = record {
  table : l.lane.table ≡ l.table.id;
  tried : (k : Known) → SeesDisturbances l.table.about k l.map l.key 1 l.fn.lane.known → SeesDisturbances l.table.about k l.map l.key l._tried l.lane.known;
}
