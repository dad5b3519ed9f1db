-- Seats, for lanes of any kind: no part of the rule is named here.
use Rattle.std.proofs.Common.{◌≡◌, ◌≢◌, ℕ, zero, suc, ◌<◌, List, [], ◌∷◌, ◌++◌, set, length-set, slice_index, true, refl, ap, sym, subst}
use Rattle.std.proofs.Common.{◌∙◌, ⊎_elim, append_assoc}
use mathlib.Core.Option.{some, some-injective, some-ne-none}
use mathlib.Core.List.{IsPrefix}
use lib.ListN.{get_elem?}
use Rattle.atomic_table.specs.Table.{keeps, Allows}
use Rattle.atomic_table.proofs.Lists.{at_set}
use Rattle.bpf_shared.specs.declared.events.Entry.{Entry}
use Rattle.hop_layout.specs.declared.place.Place.{Place}
use Rattle.hop_layout.specs.declared.about.About.{About}
use Rattle.hop_words.specs.declared.known.View.{View}
use Rattle.hop_words.specs.declared.known.Known.{Known}
use Rattle.hop_words.specs.declared.known.Sight.{Sight}
use Rattle.hop_layout.specs.Layout.{mem, at, is_place, put_at}
use Rattle.hop_words.specs.Ghost.{lane}
use Rattle.hop_words.specs.Rule.{Seats, Kept, Rule}
use Rattle.hop_words.specs.Private.Step.{solo, Leaves, TellsLane}
use Rattle.hop_layout.proofs.Layouts.{wrote}

single : (x : Known) (j k : ℕ) (l m : Known) → get_elem? (x ∷ []) j ≡ some l → get_elem? (x ∷ []) k ≡ some m → j ≡ k
single x zero zero l m a b = refl
single x (suc j) k l m a b = absurd (some-ne-none l (sym a))
single x zero (suc k) l m a b = absurd (some-ne-none m (sym b))

pub prefix_trans : (xs ys zs : List Entry) → IsPrefix xs ys → IsPrefix ys zs → IsPrefix xs zs
prefix_trans xs ys zs p q = (p.0 ++ q.0, sym (append_assoc xs p.0 q.0) ∙ (ap (λ (l : List Entry). l ++ q.0) p.1 ∙ q.1))

-- the seat of one lane gets a new lane of the same CPU
pub seats_step : (cpus : ℕ) (log log' : List Entry) (lanes lanes' : ℕ → Known) (views : List View) (i : ℕ) (l : Known) → Seats cpus log
    lanes views → get_elem? views i ≡ some (solo l)
    → (lanes' l.cpu).cpu ≡ l.cpu → ((d : ℕ) → d ≢ l.cpu → lanes' d ≡ lanes d) → IsPrefix log log' → Seats cpus log' lanes' (set views i (solo (lanes' l.cpu)))
seats_step cpus log log' lanes lanes' views i l p here same others longer = record {
  seat = p.seat;
  known = λ j k u m is at. ⊎_elim
      (λ (t : (j ≡ i) × (solo w ≡ u)). subst (λ (x : ℕ). IsKnown x m) (sym t.0) (mine k m (subst (λ (x : View). get_elem? x.lanes k ≡ some m) (sym t.1) at)))
      (λ (t : (j ≢ i) × (get_elem? views j ≡ some u)). theirs j k u m t.0 t.1 at)
      (at_set views i j (solo w) u is);
  distinct = λ j a b u m n is x y e. ⊎_elim
      (λ (t : (j ≡ i) × (solo w ≡ u)). single w a b m n (subst (λ (z : View). get_elem? z.lanes a ≡ some m) (sym t.1) x)
      (subst (λ (z : View). get_elem? z.lanes b ≡ some n) (sym t.1) y))
      (λ (t : (j ≢ i) × (get_elem? views j ≡ some u)). p.distinct j a b u m n t.1 x y e)
      (at_set views i j (solo w) u is);
  kept = λ j u is. ⊎_elim
      (λ (t : (j ≡ i) × (solo w ≡ u)). subst (λ (z : View). IsPrefix z.kept log') t.1 (log', refl))
      (λ (t : (j ≢ i) × (get_elem? views j ≡ some u)). prefix_trans u.kept log log' (p.kept j u t.1) longer)
      (at_set views i j (solo w) u is);
}
  where
    w : Known
    w = lanes' l.cpu

    IsKnown : ℕ → Known → Type 0
    IsKnown j m = (p.seat m.cpu ≡ j) × (m.cpu < cpus) × (lanes' m.cpu ≡ m)

    old : (p.seat l.cpu ≡ i) × (l.cpu < cpus) × (lanes l.cpu ≡ l)
    old = p.known i 0 (solo l) l here refl

    mine : (k : ℕ) (m : Known) → get_elem? (w ∷ []) k ≡ some m → IsKnown i m
    mine zero m is = subst (IsKnown i) (some-injective w m is) (ap p.seat same ∙ old.0, subst (λ (x : ℕ). x < cpus) (sym same) old.1, ap lanes' same)
    mine (suc k) m is = absurd (some-ne-none m (sym is))

    theirs : (j k : ℕ) (u : View) (m : Known) → j ≢ i → get_elem? views j ≡ some u → get_elem? u.lanes k ≡ some m → IsKnown j m
    theirs j k u m ne is at =
        let b = p.known j k u m is at in
        (b.0, b.1, others m.cpu (λ (e : m.cpu ≡ l.cpu). ne (sym b.0 ∙ (ap p.seat e ∙ old.0))) ∙ b.2)

-- a kind of step, as the table asks for it
pub allows : (a : About) (slots id : ℕ) (l : Known) (p : Place) (f : ℕ → ℕ) (sights : ℕ → List Sight) (told : List ℕ → ℕ → Known → Type 0)
    (tells : ℕ → Known → Type 0) → is_place a.shape p ≡ true
    → ((ws : List ℕ) (n : ℕ) (x : Known) → told ws n x → tells n x)
    → Leaves a l p f sights told → Allows (Kept a) slots id (solo l, []) (at a.shape p) f (TellsLane l.cpu tells)
allows a slots id l p f sights told tells here less step s k size_is spot fits =
    let h = a.shape in
    let known = k.seats.known id 0 (solo l) l spot refl in
    let same : mem h s.words p ≡ slice_index s.words (at h p) = rw here refl in
    let n = step s.words k.ghost k.sized k.rule known.2 known.1 (rw same fits) in
    let now : mem h (set s.words (at h p) (f (slice_index s.words (at h p)))) ≡ put_at (mem h s.words) p (f (mem h s.words p)) =
    wrote h s.words p (f (slice_index s.words (at h p))) k.sized here ∙ ap (λ (i : ℕ). put_at (mem h s.words) p (f i)) (sym same) in (
      solo (lane n.ghost.lanes l.cpu),
      keeps,
      tt,
      record {
        sized = length-set s.words (at h p) (f (slice_index s.words (at h p))) ∙ k.sized;
        ghost = n.ghost;
        seats = seats_step h.cpus k.ghost.log n.ghost.log (lane k.ghost.lanes) (lane n.ghost.lanes) s.views id l k.seats spot refl n.others n.longer;
        rule = subst (λ (w : Place → ℕ). Rule a w n.ghost) (sym now) n.rule;
      },
      (
        refl,
        (
          lane n.ghost.lanes l.cpu,
          refl,
          refl,
          subst (λ (i : ℕ). tells i (lane n.ghost.lanes l.cpu)) same
              (less s.words (mem h s.words p) (lane n.ghost.lanes l.cpu) n.says),
        ),
      ),
    )
