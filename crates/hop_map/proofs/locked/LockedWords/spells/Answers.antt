use Rattle.std.proofs.Common.{◌≡◌, true, ℕ, ap, sym, subst, ◌∙◌, arith, ⊎_elim}
use Rattle.std.proofs.lemmas.Bool.{cases_eq}
use Rattle.hop_layout.specs.declared.place.Place.{Place}
use Rattle.hop_layout.specs.declared.place.Place.TheVariants.{KeyWord}
use Rattle.hop_layout.specs.Layout.{mem}
use Rattle.hop_layout.specs.Words.{word_of}
use Rattle.hop_words.specs.Locking.{lock_of}
use Rattle.hop_words.specs.Guarded.{IsGuarded}
use Rattle.hop_map.specs.LockedSegment.{Locked, knows}
use Rattle.hop_map.proofs.Written.{mine}
use Rattle.hop_map.proofs.locked.LockedWords.spells.Goals as goal

pub returns-then-read-word_at-clause-value : goal.returns-then-read-word_at-clause-value
returns-then-read-word_at-clause-value c = λ k.
    let i = c.self.inside in
    let p : Place = KeyWord i.map c.args.element c.words.word in
    let x = c.args.self.now in
    let kn = subst (λ (x : Locked). knows x.known x.map c.args.element ≡ true) (sym (c.self.view_is ∙ c.words.invariant.same)) k in
    let guarded = subst (λ (x : Locked). IsGuarded x.about x.known p) c.self.view_is
    (mine i.table.now.about i.lane.known i.map i.segment c.args.element c.self.invariant.ready kn) in
    let word : c.read.result ≡ mem x.about.shape (lock_of x.known).copy (KeyWord x.map c.args.element c.words.word) =
    c.read.ensures.value guarded
    ∙ (ap (λ (m : ℕ). mem c.words.self.about.shape (lock_of c.words.self.known).copy (KeyWord m c.args.element c.words.word))
    (ap (λ (x : Locked). x.map) c.self.view_is)
    ∙ ap (λ (x : Locked). mem x.about.shape (lock_of x.known).copy (KeyWord x.map c.args.element c.words.word)) c.words.invariant.same) in (
      λ h. cc,
      λ s. absurd (c.if-read-word_at.true
          (word ∙ (s c.words.word
          (let t = c.words-test.true in let e = c.div_ceil-word-end.ensures in let z = c.requires.size in omega arith) ∙ sym c.word_at.ensures))),
    )

pub words-preserved : goal.words-preserved
words-preserved c = record {
  same = c.read.ensures.same ∙ c.words.invariant.same;
  spelled = λ k.
      let i = c.self.inside in
      let p : Place = KeyWord i.map c.args.element c.words.word in
      let x = c.args.self.now in
      let kn = subst (λ (x : Locked). knows x.known x.map c.args.element ≡ true) (sym (c.self.view_is ∙ c.words.invariant.same)) k in
      let guarded = subst (λ (x : Locked). IsGuarded x.about x.known p) c.self.view_is
      (mine i.table.now.about i.lane.known i.map i.segment c.args.element c.self.invariant.ready kn) in
      let word : c.read.result ≡ mem x.about.shape (lock_of x.known).copy (KeyWord x.map c.args.element c.words.word) =
      c.read.ensures.value guarded
      ∙ (ap (λ (m : ℕ). mem c.words.self.about.shape (lock_of c.words.self.known).copy (KeyWord m c.args.element c.words.word))
      (ap (λ (x : Locked). x.map) c.self.view_is)
      ∙ ap (λ (x : Locked). mem x.about.shape (lock_of x.known).copy (KeyWord x.map c.args.element c.words.word)) c.words.invariant.same) in
      λ j l. ⊎_elim
      (λ (e : j ≡ c.words.word). subst (λ (i : ℕ). mem x.about.shape (lock_of x.known).copy (KeyWord x.map c.args.element i) ≡ word_of c.args.key.now i) (sym e)
      (sym word ∙ (c.if-read-word_at.false ∙ c.word_at.ensures)))
      (λ ne. c.words.invariant.spelled k j (omega arith))
      (cases_eq j c.words.word);
}
