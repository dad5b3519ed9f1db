use Rattle.std.proofs.Common.{ap, ◌∙◌}
use Rattle.hop_layout.specs.Layout.{segments}
use Rattle.hop_words.specs.Closing.{Ending}
use Rattle.hop_words.specs.Ghost.{shape_at}
use Rattle.hop_map.specs.Dumping.{born_below}
use Rattle.hop_map.proofs.Dumps.{born_whole}
use Rattle.hop_map.proofs.closed.Closed.segments.Goals as goal

pub returns-clause-whole : goal.returns-clause-whole
returns-clause-whole c = λ last is there fixed.
    c.count_born.ensures.counted
    ∙ (ap (λ (z : Ending). born_below z c.args.map (segments (shape_at z.about c.args.map))) c.self.view_is
    ∙ born_whole c.args.self.now is.0 c.args.map there fixed)
