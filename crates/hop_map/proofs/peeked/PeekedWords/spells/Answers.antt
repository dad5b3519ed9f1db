use Rattle.std.proofs.Common.{◌≡◌, ℕ, ap, sym, subst, ◌∙◌, arith, ⊎_elim}
use Rattle.std.proofs.lemmas.Bool.{cases_eq}
use Rattle.hop_layout.specs.declared.place.Place.TheVariants.{KeyWord}
use Rattle.hop_layout.specs.Words.{word_of}
use Rattle.hop_map.specs.Private.Peeks.{Peeked, OnlyReads}
use Rattle.hop_map.specs.Lemmas.Resting.{rested_on, had_peeks}
use Rattle.hop_map.proofs.Peeking.{rested_as, spelled_on}
use Rattle.hop_map.proofs.peeked.PeekedWords.spells.Goals as goal

pub returns-then-read-word_at-clause-value : goal.returns-then-read-word_at-clause-value
returns-then-read-word_at-clause-value c = λ w all reached.
    let x = c.args.self.now in
    let word : w.key x.map c.args.element c.words.word ≡ c.read.result = spelled_on x c.words.self c.read.new.self c.self.inside.map
    c.args.element c.words.word c.read.result c.words.invariant.rests c.read.ensures.peeked
    (ap (λ (x : Peeked). x.map) c.self.view_is) w all reached in (
      λ h. cc,
      λ s. absurd (c.if-read-word_at.true
          (sym word ∙ (s c.words.word
          (let t = c.words-test.true in let e = c.div_ceil-word-end.ensures in let z = c.requires.size in omega arith) ∙ sym c.word_at.ensures))),
    )

pub returns-then-read-word_at-clause-rests : goal.returns-then-read-word_at-clause-rests
returns-then-read-word_at-clause-rests c = rested_on c.args.self.now c.words.self c.read.new.self c.words.invariant.rests
    (rested_as c.words.self c.read.new.self (KeyWord c.self.inside.map c.args.element c.words.word) c.read.result c.read.ensures.peeked)

pub words-preserved : goal.words-preserved
words-preserved c =
    let x = c.args.self.now in
    let on : OnlyReads c.words.self c.read.new.self = rested_as c.words.self c.read.new.self
    (KeyWord c.self.inside.map c.args.element c.words.word) c.read.result c.read.ensures.peeked in
    record {
      rests = rested_on x c.words.self c.read.new.self c.words.invariant.rests on;
      looks = let i = c.words.invariant.looks in let r = c.read.ensures.looks in omega arith;
      spelled = λ w all reached j l. ⊎_elim
          (λ (e : j ≡ c.words.word). subst (λ (i : ℕ). w.key x.map c.args.element i ≡ word_of c.args.key.now i) (sym e)
          (spelled_on x c.words.self c.read.new.self c.self.inside.map c.args.element c.words.word c.read.result c.words.invariant.rests
          c.read.ensures.peeked (ap (λ (x : Peeked). x.map) c.self.view_is) w all reached
          ∙ (c.if-read-word_at.false ∙ c.word_at.ensures)))
          (λ ne. c.words.invariant.spelled w (had_peeks c.words.self c.read.new.self on w all) reached j (omega arith))
          (cases_eq j c.words.word);
    }
