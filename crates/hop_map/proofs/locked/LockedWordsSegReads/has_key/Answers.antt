use Rattle.std.proofs.Common.{◌≡◌, ◌≢◌, ◌↔◌, length, IsTrue, false, ap, sym, subst, ◌∙◌, arith, ne_eqb}
use Rattle.hop_words.specs.Ghost.{shape_at}
use Rattle.hop_words.specs.Rule.{image}
use Rattle.hop_words.specs.Locking.{lock_of}
use Rattle.hop_seg.specs.Words.{Words, IsKnown}
use Rattle.hop_seg.specs.Segment.{element_key}
use Rattle.hop_map.specs.LockedSegment.{Locked, Ready}
use Rattle.hop_map.specs.Private.LockedSegment.{seen_words}
use Rattle.hop_map.proofs.Keys.{are_bytes, same_spelling, other_size}
use Rattle.hop_map.proofs.locked.LockedWordsSegReads.has_key.Goals as goal

pub returns-then-key-self-clause-value : goal.returns-then-key-self-clause-value
returns-then-key-self-clause-value c = λ w a k.
    let x = c.args.self.now in
    let e = c.args.element in
    let at : w ≡ seen_words x = a ∙ ap seen_words c.spells.ensures.same in
    let kn = (subst (λ (u : Words). IsKnown u.fixed e) at k).0 in
    let r = subst (λ (x : Locked). Ready x.about x.known x.map x.segment) c.self.view_is c.self.invariant.ready in
    let q = (r.known_is e kn).1 in
    let size : length c.args.key.now ≡ (shape_at x.about x.map).key = c.if-key-self.true ∙
    (c.self.invariant.keyed ∙ ap (λ (x : Locked). (shape_at x.about x.map).key) c.self.view_is) in
    let s = same_spelling x.about x.map (image x.about (lock_of x.known).copy) e q.0 c.args.key.now q.1
    (are_bytes c.args.key.now (λ i. let f = c.type_inv.key i in omega arith)) size in
    let t = c.spells.ensures.value kn in
    subst (λ (u : Words). IsTrue c.spells.result ↔ (u.fixed.key e ≡ c.args.key.now)) (sym at) (λ y. s.0 (t.0 y), λ h. t.1 (s.1 h))

pub returns-else-key-self-clause-value : goal.returns-else-key-self-clause-value
returns-else-key-self-clause-value c = λ w a k.
    let x = c.args.self.now in
    let e = c.args.element in
    let kn = subst (λ (u : Words). IsKnown u.fixed e) a k in
    let r = subst (λ (x : Locked). Ready x.about x.known x.map x.segment) c.self.view_is c.self.invariant.ready in
    let q = (r.known_is e kn.0).1 in
    let sized = c.self.invariant.keyed ∙ ap (λ (x : Locked). (shape_at x.about x.map).key) c.self.view_is in
    let spelled : element_key (seen_words x) e ≢ c.args.key.now = λ h. c.if-key-self.false
    (other_size x.about x.map (image x.about (lock_of x.known).copy) e q.0 c.args.key.now q.1 h ∙ sym sized) in (
      λ t. absurd (let f : IsTrue false = subst IsTrue (ne_eqb (length c.args.key.now) c.self.inside.key_size c.if-key-self.false) t in cc),
      λ h. absurd (spelled (sym (ap (λ (u : Words). u.fixed.key e) a) ∙ h)),
    )
