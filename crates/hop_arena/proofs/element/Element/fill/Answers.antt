use Rattle.std.proofs.Common.{[], length, ap, sym, subst, ◌∙◌}
use Rattle.hop_words.specs.declared.known.Known.{Known}
use Rattle.hop_layout.specs.Layout.{words_for}
use Rattle.hop_words.specs.Owning.{IsInHand, key_filled, value_filled}
use Rattle.hop_arena.specs.Filling.{word_list}
use Rattle.hop_arena.proofs.Filling.{still_in_hand, keys_filled, values_filled, word_count}
use Rattle.hop_arena.proofs.element.Element.fill.Goals as goal

pub fill_key_word-requires-clause-hand : goal.fill_key_word-requires-clause-hand
fill_key_word-requires-clause-hand c =
    subst (λ (l : Known). IsInHand l c.args.self.now.map c.args.self.now.number) (sym c.key.invariant.1)
    (still_in_hand c.args.lane.now.known c.args.self.now.map c.args.self.now.number (word_list c.key.word c.args.key.now) [] c.requires.hand)

pub fill_key_word-requires-clause-next : goal.fill_key_word-requires-clause-next
fill_key_word-requires-clause-next c =
    sym (ap (λ (l : Known). key_filled l.fresh) c.key.invariant.1
    ∙ (keys_filled c.args.lane.now.known.fresh c.args.self.now.map c.args.self.now.number (word_list c.key.word c.args.key.now) []
    c.requires.hand c.requires.empty.0
    ∙ word_count c.key.word c.args.key.now))

pub fill_value_word-requires-clause-hand : goal.fill_value_word-requires-clause-hand
fill_value_word-requires-clause-hand c =
    subst (λ (l : Known). IsInHand l c.args.self.now.map c.args.self.now.number) (sym c.value.invariant.1)
    (still_in_hand c.args.lane.now.known c.args.self.now.map c.args.self.now.number
    (word_list (words_for (length c.args.key.now)) c.args.key.now) (word_list c.value.word c.args.value.now) c.requires.hand)

pub fill_value_word-requires-clause-next : goal.fill_value_word-requires-clause-next
fill_value_word-requires-clause-next c =
    sym (ap (λ (l : Known). value_filled l.fresh) c.value.invariant.1
    ∙ (values_filled c.args.lane.now.known.fresh c.args.self.now.map c.args.self.now.number
    (word_list (words_for (length c.args.key.now)) c.args.key.now) (word_list c.value.word c.args.value.now) c.requires.hand c.requires.empty.1
    ∙ word_count c.value.word c.args.value.now))
