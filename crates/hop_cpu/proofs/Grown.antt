-- An update, and a split after it.
use Rattle.std.proofs.Common.{◌≡◌, ℕ, Bool, true, false, not, List, [], ◌∷◌, ◌++◌, refl, ap, sym, subst, ◌∙◌, append_assoc, Option, Some}
use Rattle.std.proofs.Common.{None, IfSome, inl, inr, ⊎_elim}
use Rattle.std.proofs.lemmas.List.{append_cancel_right}
use Rattle.bpf_shared.specs.declared.events.Event.{Event}
use Rattle.bpf_shared.specs.declared.events.MapAnswer.{MapAnswer}
use Rattle.bpf_shared.specs.declared.events.MapAnswer.TheVariants.{Done}
use Rattle.bpf_shared.specs.declared.events.Event.TheVariants.{Update}
use Rattle.bpf_shared.specs.History.{events_of}
use Rattle.bpf_shared.specs.Own.{in_run}
use Rattle.hop_layout.specs.declared.about.About.{About}
use Rattle.hop_words.specs.declared.known.Known.{Known}
use Rattle.hop_words.specs.declared.known.Sight.{Sight}
use Rattle.hop_words.specs.Kinds.{TakesEffect}
use Rattle.hop_words.specs.Ghost.{shape_at}
use Rattle.hop_words.specs.Sights.{lock_taken, split_made}
use Rattle.hop_map.specs.declared.growth.Growth.{Growth}
use Rattle.hop_map.specs.declared.growth.Growth.TheVariants.{Grown, AtDepth, Worn}
use Rattle.hop_map.specs.Splitting.{SplitEnds}
use Rattle.hop_map.specs.Port.{Port, PortDoes, runs}
use Rattle.hop_map.specs.Call.{IsShortage}
use Rattle.hop_map.specs.Noting.{MayNote, CallNotes, CallsNote, IsGrowth, LocksLast, LockedLast}
use Rattle.hop_cpu.specs.Growing.{GrowsMap, HasTriedSplit}

some_is : (s t : ℕ) → Some s ≡ Some t → s ≡ t
some_is s t is = cc

pub none_some : {A : Type 0} {x : A} → None ≡ Some x → ⊥
none_some is = cc

-- ---- a split that was tried, or none
pub grows_none : (a : About) (m : ℕ) (p : Port) → ((s : ℕ) → p.spilled ≡ Some s → (shape_at a m).grow ≡ true → ⊥) → GrowsMap a m p p
grows_none a m p never = record {
  more = [];
  notes = inl refl;
  tally = refl;
  known = refl;
  same = refl;
  untried = λ _. refl;
  tried = λ s is
      grow. absurd (never s is grow);
}

pub grows_split : (a : About) (m home : ℕ) (p q : Port) (g : Growth) → p.spilled ≡ Some home → (shape_at a m).grow ≡ true → q ≡ record p
    { known = q.known } → SplitEnds a p.known m home g q.known → GrowsMap a m p q
grows_split a m home p q Grown spilled grow same (s, n, owns, less, version, is) = record {
  more = split_made m s n ∷ (lock_taken m s n ∷ []);
  notes = inr (grow, (home, spilled, (s, n, owns.here, inr refl)));
  tally = ap (λ (k : Known). k.tally) is;
  known = is ∙ (λ j. record p.known { readings = sym (ap (λ (k : Known). k.readings) is) j; tally = sym (ap (λ (k : Known). k.tally) is) j });
  same = same;
  untried = λ none. absurd (none_some (sym none ∙ spilled));
  tried = λ t there _. (Grown, subst (λ (h : ℕ). SplitEnds a p.known m h Grown q.known) (some_is home t (sym spilled ∙ there)) (s, n, owns, less, version, is));
}
grows_split a m home p q AtDepth spilled grow same (s, n, owns, at, is) = record {
  more = lock_taken m s n ∷ [];
  notes = inr (grow, (home, spilled, (s, n, owns.here, inl refl)));
  tally = ap (λ (k : Known). k.tally) is;
  known = is ∙ (λ j. record p.known { readings = sym (ap (λ (k : Known). k.readings) is) j; tally = sym (ap (λ (k : Known). k.tally) is) j });
  same = same;
  untried = λ none. absurd (none_some (sym none ∙ spilled));
  tried = λ t there _. (AtDepth, subst (λ (h : ℕ). SplitEnds a p.known m h AtDepth q.known) (some_is home t (sym spilled ∙ there)) (s, n, owns, at, is));
}
grows_split a m home p q Worn spilled grow same (s, n, owns, less, version, is) = record {
  more = lock_taken m s n ∷ [];
  notes = inr (grow, (home, spilled, (s, n, owns.here, inl refl)));
  tally = ap (λ (k : Known). k.tally) is;
  known = is ∙ (λ j. record p.known { readings = sym (ap (λ (k : Known). k.readings) is) j; tally = sym (ap (λ (k : Known). k.tally) is) j });
  same = same;
  untried = λ none. absurd (none_some (sym none ∙ spilled));
  tried = λ t there _. (Worn, subst (λ (h : ℕ). SplitEnds a p.known m h Worn q.known) (some_is home t (sym spilled ∙ there)) (s, n, owns, less, version, is));
}

-- ---- after an update
module _ (a : About) (m : ℕ) (p q r : Port) (g : GrowsMap a m q r) where
  saw : r.known.seen ≡ q.known.seen
  saw = ap (λ (k : Known). k.seen) g.known

  cpu : r.known.cpu ≡ q.known.cpu
  cpu = ap (λ (k : Known). k.cpu) g.known

  pub does_on : (e : Event) → PortDoes a p e q → PortDoes a p e r
  does_on e d = record {
    table = ap (λ (z : Port). z.table) g.same ∙ d.table;
    cpu = cpu ∙ d.cpu;
    seen = subst (TakesEffect a p.known e) (sym saw) d.seen;
  }

  pub tried_on : HasTriedSplit a m r
  tried_on s there grow =
      let t = g.tried s (ap (λ (z : Port). z.spilled) (sym g.same) ∙ there) grow in
      (q.known, t.0, t.1)

  -- only a new key goes to a list
  pub shortage_on : (answer : MapAnswer) → IfSome q.spilled (λ s. (answer ≡ Done) × LockedLast m s p.known q.known) → IsShortage a p.known m
      answer q.known → IsShortage a p.known m answer r.known
  shortage_on answer spilled short = go q.spilled refl
    where
      go : (o : Option ℕ) → q.spilled ≡ o → IsShortage a p.known m answer r.known
      go None is = subst (λ (z : Port). IsShortage a p.known m answer z.known) (sym (g.untried is)) short
      go (Some s) is =
          let done = subst (λ (o : Option ℕ). IfSome o (λ s. (answer ≡ Done) × LockedLast m s p.known q.known)) is spilled in
          subst (λ (x : MapAnswer). IsShortage a p.known m x r.known) (sym done.0) tt

  pub runs_on : runs q ≡ true → runs r ≡ true
  runs_on is = (λ j. in_run (events_of (cpu j) (saw j))) ∙ is

  module _ (key bytes : List ℕ) (flags : ℕ) (answer : MapAnswer) where
    pub notes_on : IfSome q.spilled (λ s. (answer ≡ Done) × LockedLast m s p.known q.known) → CallNotes a (Update m key bytes flags answer)
        p.known q.known → CallsNote a (Update m key bytes flags answer ∷ []) p.known r.known
    notes_on spilled (sights, is, may) = (
      g.more ++ sights,
      g.tally ∙ (ap (λ (z : List Sight). g.more ++ z) is ∙ sym (append_assoc g.more sights p.known.tally)),
      (
        g.more ++ sights,
        [],
        refl,
        ⊎_elim
            (λ (none : g.more ≡ []). inl (subst (λ (z : List Sight). MayNote a (Update m key bytes flags answer) z)
            (sym (ap (λ (z : List Sight). z ++ sights) none)) may))
            (λ grown.
            let d : (answer ≡ Done) × LockedLast m grown.1.0 p.known q.known = subst
            (λ (o : Option ℕ). IfSome o (λ s. (answer ≡ Done) × LockedLast m s p.known q.known)) grown.1.1 spilled in
            let same : d.1.0 ≡ sights = append_cancel_right d.1.0 sights p.known.tally (sym d.1.1 ∙ is) in
            inr (
              g.more,
              sights,
              refl,
              subst (λ (x : MapAnswer). IsGrowth a (Update m key bytes flags x) sights g.more) (sym d.0)
                  (grown.0, (grown.1.0, subst (LocksLast m grown.1.0) same d.1.2, grown.1.2)),
              may,
            ))
            g.notes,
        refl,
      ),
    )

pub was_false : (b : Bool) → not b ≡ true → b ≡ true → ⊥
was_false true is on = cc
was_false false is on = cc
