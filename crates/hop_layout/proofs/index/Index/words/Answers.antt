use Rattle.std.proofs.Common.{ap, ◌∙◌}
use Rattle.hop_layout.specs.declared.about.About.{About}
use Rattle.hop_layout.specs.Layout.{size}
use Rattle.hop_layout.proofs.index.Index.words.Goals as goal

pub returns : goal.returns
returns c = c.self.invariant.whole ∙ ap (λ (x : About). size x.shape) c.self.view_is
