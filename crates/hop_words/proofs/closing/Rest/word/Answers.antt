use Rattle.std.proofs.Common.{◌≡◌, ℕ, true, ◌<◌, ap, sym, subst, ◌∙◌}
use Rattle.hop_layout.specs.declared.about.About.{About}
use Rattle.hop_words.specs.Closing.{Ending}
use Rattle.std.specs.Mem.Slots.{slots_items}
use Rattle.hop_layout.specs.Layout.{is_place, mem, size}
use Rattle.hop_layout.proofs.Layouts.{at_inside}
use Rattle.hop_words.proofs.Closings.{read_at}
use Rattle.hop_words.proofs.closing.Rest.word.Goals as goal

pub word-requires : goal.word-requires
word-requires c =
    let a = c.self.inside.index in
    let about = ap (λ (s : Ending). s.about) c.self.view_is in
    let there : is_place a.shape c.args.place ≡ true = ap (λ (x : About). is_place x.shape c.args.place) about ∙ c.requires.there in (
      subst (λ (n : ℕ). c.word_of.result < n) (sym c.self.invariant.1)
          (subst (λ (n : ℕ). n < size a.shape) (sym c.word_of.ensures.word) (at_inside a.shape c.args.place there)),
      c.self.invariant.0,
    )

pub returns : goal.returns
returns c =
    let a = c.self.inside.index in
    let about = ap (λ (s : Ending). s.about) c.self.view_is in
    let there : is_place a.shape c.args.place ≡ true = ap (λ (x : About). is_place x.shape c.args.place) about ∙ c.requires.there in
    record {
      word = read_at a.shape (slots_items c.self.inside.words.words) c.args.place c.word_of.result c.word.result c.word_of.ensures.word there c.word.ensures
          ∙ ap (λ (s : Ending). mem s.about.shape s.words c.args.place) c.self.view_is;
    }
