use Rattle.std.proofs.Common.{ap, ◌∙◌}
use Rattle.hop_layout.specs.declared.about.About.{About}
use Rattle.hop_layout.specs.Layout.{at}
use Rattle.hop_words.specs.Inside.{Shown}
use Rattle.hop_words.proofs.table.HopTable.word_of.Goals as goal

pub returns : goal.returns
returns c = record {
  word = c.word_of.ensures.word ∙ (ap (λ (x : About). at x.shape c.args.place)
      (c.self.invariant.2 ∙ ap (λ (s : Shown). s.about) c.self.view_is));
}
