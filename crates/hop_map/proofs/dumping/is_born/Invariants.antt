use Rattle.std.specs.Prelude.{◌≡◌, ◌-◌, ◌≤◌}
use Rattle.hop_layout.specs.Births.{is_born}
use Rattle.hop_layout.specs.Layout.{depth}
use Rattle.hop_words.specs.Ghost.{shape_at}
use Rattle.hop_map.specs.Dumping.{rest_depths}
use Rattle.hop_map.proofs.dumping.is_born.Given as goal

abbrev pub invariant-bits : goal.invariant-bits
invariant-bits l = record {
  inside : l.at ≤ l.segment;
  born : is_born (rest_depths l.rest l.map) (l.deepest - l.passed) l.at ≡ is_born (rest_depths l.rest l.map) (depth (shape_at l.rest.about l.map)) l.segment;
}
