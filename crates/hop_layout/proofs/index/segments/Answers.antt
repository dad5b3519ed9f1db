use Rattle.std.proofs.Common.{ap, ◌∙◌}
use Rattle.hop_layout.specs.Layout.{power}
use Rattle.hop_layout.proofs.Depths.{segments_are}
use Rattle.hop_layout.proofs.index.segments.Goals as goal

pub returns : goal.returns
returns c = segments_are c.depth.result c.depth.ensures.most ∙ ap power c.depth.ensures.value
