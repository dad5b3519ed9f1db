-- A seat whose CPUs learn the whole history.
use Rattle.std.proofs.Common.{◌≡◌, ◌≢◌, ℕ, zero, suc, ◌<◌, Bool, List, [], ◌∷◌, ◌==◌, if◌then◌else◌, map, refl, ap, sym, subst, set, ◌∙◌}
use Rattle.std.proofs.Common.{⊎_elim, inl, inr, ◌⊎◌, eq-eqb, ne_eqb}
use Rattle.std.proofs.lemmas.List.{set-get_or}
use mathlib.Core.Option.{some, some-injective, some-ne-none}
use mathlib.Core.List.{IsPrefix}
use lib.ListN.{get_elem?}
use Rattle.atomic_table.specs.Table.{keeps, Allows}
use Rattle.atomic_table.proofs.Lists.{at_set}
use Rattle.bpf_shared.specs.declared.events.Entry.{Entry}
use Rattle.bpf_shared.specs.History.{events_of}
use Rattle.bpf_shared.proofs.Puts.{equal_or_not}
use Rattle.hop_layout.specs.declared.about.About.{About}
use Rattle.hop_words.specs.declared.known.Known.{Known}
use Rattle.hop_words.specs.declared.known.View.{View}
use Rattle.hop_layout.specs.Layout.{mem}
use Rattle.hop_words.specs.Ghost.{Ghost, Lanes, lane}
use Rattle.hop_words.specs.Rule.{Logged, Seats, Kept, Rule}
use Rattle.hop_words.specs.Private.Seats.{Sat}
use Rattle.hop_words.specs.Seats.{view, with_seen, AreSettled}
use Rattle.hop_words.proofs.Histories.{prefix_refl}

unmapped : {A B : Type 0} (f : A → B) (xs : List A) (k : ℕ) (y : B) → get_elem? (map f xs) k ≡ some y → (x : A) × (get_elem? xs k ≡ some x) × (f x ≡ y)
unmapped f [] k y e = absurd (some-ne-none y (sym e))
unmapped f (x ∷ xs) zero y e = (x, refl, some-injective (f x) y e)
unmapped f (x ∷ xs) (suc k) y e = unmapped f xs k y e

-- each CPU of a seat has seen the whole history
pub settles : (a : About) (slots id : ℕ) (me : Sat) (told : List Known → List Known → Type 0) →
    ((new : List Known) → AreSettled a me.0.lanes new → told me.0.lanes new)
    → Allows (Kept a) slots id me 0 (λ n. n) (λ n m. (m ≡ (view m.0.lanes me.0.kept, me.1)) × told me.0.lanes m.0.lanes)
settles a slots id me told says s k size at fits = (
  u,
  keeps,
  tt,
  rw (set-get_or s.words 0) (record { sized = k.sized; ghost = ghost; rule = rule; seats = now }),
  (refl, says (map (with_seen log) me.0.lanes) settled),
)
  where
    log : List Entry
    log = k.ghost.log

    u : View
    u = view (map (with_seen k.ghost.log) me.0.lanes) me.0.kept

    -- what each CPU has seen now
    seen : ℕ → List Entry
    seen = λ c. if k.seats.seat c == id then k.ghost.log else k.ghost.lanes.seen c

    seen_here : (c : ℕ) → k.seats.seat c ≡ id → seen c ≡ k.ghost.log
    seen_here c e = ap (λ (b : Bool). if b then k.ghost.log else k.ghost.lanes.seen c) (eq-eqb (k.seats.seat c) id e)

    seen_there : (c : ℕ) → k.seats.seat c ≢ id → seen c ≡ k.ghost.lanes.seen c
    seen_there c ne = ap (λ (b : Bool). if b then k.ghost.log else k.ghost.lanes.seen c) (ne_eqb (k.seats.seat c) id ne)

    lanes : Lanes
    lanes = record k.ghost.lanes { seen = seen }

    ghost : Ghost
    ghost = record k.ghost { lanes = lanes }

    logged : Logged a seen k.ghost.log k.ghost.last
    logged = record {
      legal = k.rule.logged.legal;
      begins = λ c inside. elim (equal_or_not (k.seats.seat c) id) [
        | inl e ↦ subst (λ (x : List Entry). IsPrefix x k.ghost.log) (sym (seen_here c e)) (prefix_refl k.ghost.log)
        | inr ne ↦ subst (λ (x : List Entry). IsPrefix x k.ghost.log) (sym (seen_there c ne)) (k.rule.logged.begins c inside)
      ];
      own = λ c inside. elim (equal_or_not (k.seats.seat c) id) [
        | inl e ↦ ap (events_of c) (seen_here c e)
        | inr ne ↦ ap (events_of c) (seen_there c ne) ∙ k.rule.logged.own c inside
      ];
      others = k.rule.logged.others;
    }

    rule : Rule a (mem a.shape s.words) ghost
    rule = record {
      shaped = k.rule.shaped;
      logged = logged;
      keyed = k.rule.keyed;
      worn = k.rule.worn;
      runs = k.rule.runs;
      batched = k.rule.batched;
      owned = k.rule.owned;
      linked = k.rule.linked;
      filled = k.rule.filled;
      deep = k.rule.deep;
      segments = k.rule.segments;
      locking = k.rule.locking;
      held = k.rule.held;
      reading = k.rule.reading;
      valued = k.rule.valued;
      fixed = k.rule.fixed;
      shown = k.rule.shown;
    }

    settled : AreSettled a me.0.lanes (map (with_seen k.ghost.log) me.0.lanes)
    settled = record {
      log = k.ghost.log;
      legal = (k.ghost.last, k.rule.logged.legal);
      begins = λ j l here. (let b = k.seats.known id j me.0 l at here in (
        subst (λ (x : Known). IsPrefix x.seen k.ghost.log) b.2 (k.rule.logged.begins l.cpu b.1),
        ap
            (λ (x : Known). events_of l.cpu x.seen) (sym b.2) ∙ k.rule.logged.own l.cpu b.1,
      ));
      others = k.rule.logged.others;
      after = refl;
    }

    -- a CPU of this seat, and one of another
    mine : (l : Known) → k.seats.seat l.cpu ≡ id → lane k.ghost.lanes l.cpu ≡ l → lane lanes l.cpu ≡ with_seen k.ghost.log l
    mine l here is = ap (λ (x : List Entry). record (lane k.ghost.lanes l.cpu) { seen = x }) (seen_here l.cpu here) ∙ ap (with_seen k.ghost.log) is

    other : (l : Known) → k.seats.seat l.cpu ≢ id → lane k.ghost.lanes l.cpu ≡ l → lane lanes l.cpu ≡ l
    other l there is = ap (λ (x : List Entry). record (lane k.ghost.lanes l.cpu) { seen = x }) (seen_there l.cpu there) ∙ is

    IsKnown : ℕ → Known → Type 0
    IsKnown i m = (k.seats.seat m.cpu ≡ i) × (m.cpu < a.shape.cpus) × (lane lanes m.cpu ≡ m)

    known_here : (j : ℕ) (m : Known) → get_elem? (map (with_seen k.ghost.log) me.0.lanes) j ≡ some m → IsKnown id m
    known_here j m here =
        let x = unmapped (with_seen k.ghost.log) me.0.lanes j m here in
        let b = k.seats.known id j me.0 x.0 at x.1 in
        subst (IsKnown id) x.2 (b.0, b.1, mine x.0 b.0 b.2)

    now : Seats a.shape.cpus k.ghost.log (lane lanes) (set s.views id u)
    now = record {
      seat = k.seats.seat;
      known = λ i j x l is here. ⊎_elim
          (λ (t : (i ≡ id) × (u ≡ x)). subst (λ (y : ℕ). IsKnown y l) (sym t.0)
          (known_here j l (subst (λ (y : View). get_elem? y.lanes j ≡ some l) (sym t.1) here)))
          (λ (t : (i ≢ id) × (get_elem? s.views i ≡ some x)).
          let b = k.seats.known i j x l t.1 here in (b.0, b.1, other l (λ (e : k.seats.seat l.cpu ≡ id). t.0 (sym b.0 ∙ e)) b.2))
          (at_set s.views id i u x is);
      distinct = λ i p q x l m is here there same. ⊎_elim
          (λ (t : (i ≡ id) × (u ≡ x)).
          let y = unmapped (with_seen k.ghost.log) me.0.lanes p l (subst (λ (z : View). get_elem? z.lanes p ≡ some l) (sym t.1) here) in
          let z = unmapped (with_seen k.ghost.log) me.0.lanes q m (subst (λ (w : View). get_elem? w.lanes q ≡ some m) (sym t.1) there) in
          k.seats.distinct id p q me.0 y.0 z.0 at y.1 z.1 (ap (λ (w : Known). w.cpu) y.2 ∙ (same ∙ sym (ap (λ (w : Known). w.cpu) z.2))))
          (λ (t : (i ≢ id) × (get_elem? s.views i ≡ some x)). k.seats.distinct i p q x l m t.1 here there same)
          (at_set s.views id i u x is);
      kept = λ i x is. ⊎_elim
          (λ (t : (i ≡ id) × (u ≡ x)). subst (λ (y : View). IsPrefix y.kept k.ghost.log) t.1 (k.seats.kept id me.0 at))
          (λ (t : (i ≢ id) × (get_elem? s.views i ≡ some x)). k.seats.kept i x t.1)
          (at_set s.views id i u x is);
    }
