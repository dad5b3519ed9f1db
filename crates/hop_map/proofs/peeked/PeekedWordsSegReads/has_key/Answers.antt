use Rattle.std.proofs.Common.{◌≡◌, length, IsTrue, false, ap, sym, subst, ◌∙◌, arith, ne_eqb}
use Rattle.hop_words.specs.Ghost.{shape_at}
use Rattle.hop_map.specs.Private.Peeks.{Peeked}
use Rattle.hop_map.specs.Lemmas.Resting.{agreed_before}
use Rattle.hop_map.proofs.Keys.{are_bytes}
use Rattle.hop_map.proofs.Peeking.{keyed_value, sized_key}
use Rattle.hop_map.proofs.peeked.PeekedWordsSegReads.has_key.Goals as goal

pub returns-then-key-self-clause-value : goal.returns-then-key-self-clause-value
unfolding agreed_before
returns-then-key-self-clause-value c = λ w g k.
    let x = c.args.self.now in
    let size : length c.args.key.now ≡ (shape_at x.about x.map).key = c.if-key-self.true ∙
    (c.self.invariant.keyed ∙ ap (λ (x : Peeked). (shape_at x.about x.map).key) c.self.view_is) in
    keyed_value x c.args.element c.args.key.now w (agreed_before x c.spells.new.self c.spells.ensures.rests w g) k c.spells.result
    (are_bytes c.args.key.now (λ i. let f = c.type_inv.key i in omega arith)) size (λ at_e. c.spells.ensures.value g.words g.peeks at_e)

pub returns-else-key-self-clause-value : goal.returns-else-key-self-clause-value
returns-else-key-self-clause-value c = λ w g k.
    let x = c.args.self.now in
    let sized = c.self.invariant.keyed ∙ ap (λ (x : Peeked). (shape_at x.about x.map).key) c.self.view_is in (
      λ t. absurd (let f : IsTrue false = subst IsTrue (ne_eqb (length c.args.key.now) c.self.inside.key_size c.if-key-self.false) t in cc),
      λ h. absurd (c.if-key-self.false (sized_key x c.args.element c.args.key.now w g k h ∙ sym sized)),
    )
