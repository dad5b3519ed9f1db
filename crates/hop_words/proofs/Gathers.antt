-- Split seat, join seats, and the seat that learns the whole history.
use Rattle.std.proofs.Common.{◌≡◌, ◌≢◌, ℕ, zero, suc, ◌+◌, ◌%◌, ◌<◌, Bool, List, [], ◌∷◌, ◌++◌, ◌==◌, if◌then◌else◌, length, length-set}
use Rattle.std.proofs.Common.{set, refl, ap, sym, subst, ◌∙◌, arith, ⊎_elim, inl, inr, ◌⊎◌, eq-eqb, ne_eqb}
use Rattle.std.proofs.lemmas.List.{set-get_or, append-nil}
use mathlib.Core.Option.{some, some-injective, some-ne-none}
use mathlib.Core.List.{IsPrefix}
use mathlib.Core.Logic.{dite}
use native.Mathlib.Decide.{dec_lt}
use lib.ListN.{get_elem?}
use Rattle.atomic_table.specs.Table.{keeps, Allows, Splits, Joins, Enters, Final, Seen}
use Rattle.atomic_table.proofs.Lists.{at_set, set_again}
use Rattle.bpf_shared.specs.declared.events.Event.{Event}
use Rattle.bpf_shared.specs.declared.events.Entry.{Entry}
use Rattle.bpf_shared.specs.History.{events_of}
use Rattle.bpf_shared.proofs.Chains.{events_of-append}
use Rattle.hop_layout.specs.declared.about.About.{About}
use Rattle.hop_words.specs.declared.known.Known.{Known}
use Rattle.hop_words.specs.declared.known.View.{View}
use Rattle.hop_layout.specs.Layout.{mem}
use Rattle.hop_words.specs.Ghost.{Ghost, lane, shape_at}
use Rattle.hop_layout.specs.declared.place.Place.{Place}
use Rattle.hop_layout.specs.declared.place.Place.TheVariants.{Stamp}
use Rattle.hop_words.specs.Content.{words_by_place, IsShare}
use Rattle.hop_words.specs.Rule.{Seats, Kept, Rule, Segment, image, times_lock}
use Rattle.hop_words.proofs.Shares.{share_agrees}
use Rattle.hop_words.proofs.Readings.{even_or_odd}
use Rattle.hop_words.specs.Private.Seats.{Sat, empty_view, gathered, onlooker, Learned}
use Rattle.hop_words.specs.Seats.{view, HasSeenBeginning, KeepsWholeHistory}
use Rattle.hop_words.proofs.Histories.{rest_has_none, prefix_refl}
use Rattle.hop_words.specs.Depths.{IsBorn, home_by}

-- a view after the others
snoc_at : {A : Type 0} (xs : List A) (a b : A) (j : ℕ) → get_elem? (xs ++ a ∷ []) j ≡ some b → (get_elem? xs j ≡ some b) ⊎ ((j ≡ length xs) × (a ≡ b))
snoc_at [] a b zero e = inr (refl, some-injective a b e)
snoc_at [] a b (suc j) e = absurd (some-ne-none b (sym e))
snoc_at (x ∷ xs) a b zero e = inl e
snoc_at (x ∷ xs) a b (suc j) e = ⊎_elim (λ (t : get_elem? xs j ≡ some b). inl t) (λ (t : (j ≡ length xs) × (a ≡ b)). inr (ap suc t.0, t.1)) (snoc_at xs a b j e)

-- two lists in a row
append_at : {A : Type 0} (xs ys : List A) (k : ℕ) (a : A) → get_elem? (xs ++ ys) k ≡ some a → ((k < length xs) × (get_elem? xs k ≡ some a))
    ⊎ ((j : ℕ) × (length xs + j ≡ k) × (get_elem? ys j ≡ some a))
append_at [] ys k a e = inr (k, omega arith, e)
append_at (x ∷ xs) ys zero a e = inl (omega arith, e)
append_at (x ∷ xs) ys (suc k) a e = ⊎_elim
    (λ (t : (k < length xs) × (get_elem? xs k ≡ some a)). inl (let s = t.0 in omega arith, t.1))
    (λ (t : (j : ℕ) × (length xs + j ≡ k) × (get_elem? ys j ≡ some a)). inr (t.0, (let s = t.1 in omega arith), t.2))
    (append_at xs ys k a e)

-- a new seat without a CPU
pub comes : (a : About) (slots : ℕ) (m : Sat) → Enters (Kept a) slots 0 (λ n w. w ≡ empty_view)
comes a slots m s k size fits = (empty_view, record { sized = k.sized; ghost = k.ghost; rule = k.rule; seats = more }, refl)
  where
    more : Seats a.shape.cpus k.ghost.log (lane k.ghost.lanes) (s.views ++ empty_view ∷ [])
    more = record {
      seat = k.seats.seat;
      known = λ i j v l is here. ⊎_elim
          (λ (t : get_elem? s.views i ≡ some v). k.seats.known i j v l t here)
          (λ (t : (i ≡ length s.views) × (empty_view ≡ v)). absurd (some-ne-none l (sym (subst (λ (x : View). get_elem? x.lanes j ≡ some l) (sym t.1) here))))
          (snoc_at s.views empty_view v i is);
      distinct = λ i j j' v l m is here there same. ⊎_elim
          (λ (t : get_elem? s.views i ≡ some v). k.seats.distinct i j j' v l m t here there same)
          (λ (t : (i ≡ length s.views) × (empty_view ≡ v)). absurd (some-ne-none l (sym (subst (λ (x : View). get_elem? x.lanes j ≡ some l) (sym t.1) here))))
          (snoc_at s.views empty_view v i is);
      kept = λ i v is. ⊎_elim
          (λ (t : get_elem? s.views i ≡ some v). k.seats.kept i v t)
          (λ (t : (i ≡ length s.views) × (empty_view ≡ v)). subst (λ (x : View). IsPrefix x.kept k.ghost.log) t.1 (k.ghost.log, refl))
          (snoc_at s.views empty_view v i is);
    }

-- the first CPU of a seat goes to a new one
pub deals : (a : About) (id : ℕ) (l : Known) (ls : List Known) (kept : List Entry) → Splits (Kept a) id (view (l ∷ ls) kept) (view ls kept) (view (l ∷ []) [])
deals a id l ls old s k at = record { sized = k.sized; ghost = k.ghost; rule = k.rule; seats = now }
  where
    v : View
    v = view (l ∷ ls) old

    seat : ℕ → ℕ
    seat = λ c. if c == l.cpu then length s.views else k.seats.seat c

    seat_own : seat l.cpu ≡ length s.views
    seat_own = ap (λ (b : Bool). if b then length s.views else k.seats.seat l.cpu) (eq-eqb l.cpu l.cpu refl)

    seat_else : (c : ℕ) → c ≢ l.cpu → seat c ≡ k.seats.seat c
    seat_else c ne = ap (λ (b : Bool). if b then length s.views else k.seats.seat c) (ne_eqb c l.cpu ne)

    IsKnown : ℕ → Known → Type 0
    IsKnown i m = (seat m.cpu ≡ i) × (m.cpu < a.shape.cpus) × (lane k.ghost.lanes m.cpu ≡ m)

    own : (k.seats.seat l.cpu ≡ id) × (l.cpu < a.shape.cpus) × (lane k.ghost.lanes l.cpu ≡ l)
    own = k.seats.known id 0 v l at refl

    new : (j : ℕ) (m : Known) → get_elem? (l ∷ []) j ≡ some m → IsKnown (length s.views) m
    new zero m is = subst (IsKnown (length s.views)) (some-injective l m is) (seat_own, own.1, own.2)
    new (suc j) m is = absurd (some-ne-none m (sym is))

    left : (i j : ℕ) (u : View) (m : Known) → get_elem? (set s.views id (view ls old)) i ≡ some u → get_elem? u.lanes j ≡ some m → IsKnown i m
    left i j u m is here = ⊎_elim
        (λ (t : (i ≡ id) × (view ls old ≡ u)).
        let there : get_elem? ls j ≡ some m = subst (λ (x : View). get_elem? x.lanes j ≡ some m) (sym t.1) here in
        let b = k.seats.known id (suc j) v m at there in (
          seat_else m.cpu (λ (e : m.cpu ≡ l.cpu). absurd (let z = k.seats.distinct id (suc j) 0 v m l at there refl e in omega arith)) ∙
              (b.0 ∙ sym t.0),
          b.1,
          b.2,
        ))
        (λ (t : (i ≢ id) × (get_elem? s.views i ≡ some u)).
        let b = k.seats.known i j u m t.1 here in
        (seat_else m.cpu (λ (e : m.cpu ≡ l.cpu). t.0 (sym b.0 ∙ (ap k.seats.seat e ∙ own.0))) ∙ b.0, b.1, b.2))
        (at_set s.views id i (view ls old) u is)

    apart_left : (i a b : ℕ) (u : View) (m n : Known) → get_elem? (set s.views id (view ls old)) i ≡ some u → get_elem? u.lanes a ≡ some m →
        get_elem? u.lanes b ≡ some n → m.cpu ≡ n.cpu → a ≡ b
    apart_left i a b u m n is here there same = ⊎_elim
        (λ (t : (i ≡ id) × (view ls old ≡ u)).
        let x : get_elem? ls a ≡ some m = subst (λ (x : View). get_elem? x.lanes a ≡ some m) (sym t.1) here in
        let y : get_elem? ls b ≡ some n = subst (λ (x : View). get_elem? x.lanes b ≡ some n) (sym t.1) there in
        let z = k.seats.distinct id (suc a) (suc b) v m n at x y same in omega arith)
        (λ (t : (i ≢ id) × (get_elem? s.views i ≡ some u)). k.seats.distinct i a b u m n t.1 here there same)
        (at_set s.views id i (view ls old) u is)

    apart_new : (a b : ℕ) (m n : Known) → get_elem? (l ∷ []) a ≡ some m → get_elem? (l ∷ []) b ≡ some n → a ≡ b
    apart_new zero zero m n x y = refl
    apart_new (suc a) b m n x y = absurd (some-ne-none m (sym x))
    apart_new zero (suc b) m n x y = absurd (some-ne-none n (sym y))

    size : length (set s.views id (view ls old)) ≡ length s.views
    size = length-set s.views id (view ls old)

    r : View
    r = view (l ∷ []) []

    now : Seats a.shape.cpus k.ghost.log (lane k.ghost.lanes) (set s.views id (view ls old) ++ r ∷ [])
    now = record {
      seat = seat;
      known = λ i j u m is here. ⊎_elim
          (λ (t : get_elem? (set s.views id (view ls old)) i ≡ some u). left i j u m t here)
          (λ (t : (i ≡ length (set s.views id (view ls old))) × (r ≡ u)).
          subst (λ (x : ℕ). IsKnown x m) (sym (t.0 ∙ size)) (new j m (subst (λ (x : View). get_elem? x.lanes j ≡ some m) (sym t.1) here)))
          (snoc_at (set s.views id (view ls old)) r u i is);
      distinct = λ i a b u m n is here there same. ⊎_elim
          (λ (t : get_elem? (set s.views id (view ls old)) i ≡ some u). apart_left i a b u m n t here there same)
          (λ (t : (i ≡ length (set s.views id (view ls old))) × (r ≡ u)).
          apart_new a b m n (subst (λ (x : View). get_elem? x.lanes a ≡ some m) (sym t.1) here)
          (subst (λ (x : View). get_elem? x.lanes b ≡ some n) (sym t.1) there))
          (snoc_at (set s.views id (view ls old)) r u i is);
      kept = λ i u is. ⊎_elim
          (λ (t : get_elem? (set s.views id (view ls old)) i ≡ some u). ⊎_elim
          (λ (t' : (i ≡ id) × (view ls old ≡ u)). subst (λ (x : View). IsPrefix x.kept k.ghost.log) t'.1 (k.seats.kept id v at))
          (λ (t' : (i ≢ id) × (get_elem? s.views i ≡ some u)). k.seats.kept i u t'.1)
          (at_set s.views id i (view ls old) u t))
          (λ (t : (i ≡ length (set s.views id (view ls old))) × (r ≡ u)). subst (λ (x : View). IsPrefix x.kept k.ghost.log) t.1 (k.ghost.log, refl))
          (snoc_at (set s.views id (view ls old)) r u i is);
    }

-- the lanes of a second seat go after those of a first
pub gathers : (a : About) (id other : ℕ) (v w : View) → Joins (Kept a) id v other w (gathered v w) empty_view
gathers a id other v w s k at apart there = record { sized = k.sized; ghost = k.ghost; rule = k.rule; seats = now }
  where
    both : View
    both = gathered v w

    second : get_elem? s.views other ≡ some w
    second = ⊎_elim (λ (t : (other ≡ id) × (both ≡ w)). absurd (apart t.0)) (λ (t : (other ≢ id) × (get_elem? s.views other ≡ some w)). t.1)
        (at_set s.views id other both w there)

    seat : ℕ → ℕ
    seat = λ c. if k.seats.seat c == other then id else k.seats.seat c

    seat_moved : (c : ℕ) → k.seats.seat c ≡ other → seat c ≡ id
    seat_moved c is = ap (λ (b : Bool). if b then id else k.seats.seat c) (eq-eqb (k.seats.seat c) other is)

    seat_stays : (c i : ℕ) → k.seats.seat c ≡ i → i ≢ other → seat c ≡ i
    seat_stays c i is ne = ap (λ (b : Bool). if b then id else k.seats.seat c)
        (ne_eqb (k.seats.seat c) other (λ (e : k.seats.seat c ≡ other). ne (sym is ∙ e))) ∙ is

    IsKnown : ℕ → Known → Type 0
    IsKnown i m = (seat m.cpu ≡ i) × (m.cpu < a.shape.cpus) × (lane k.ghost.lanes m.cpu ≡ m)

    Split : ℕ → Known → Type 0
    Split j m = ((j < length v.lanes) × (get_elem? v.lanes j ≡ some m)) ⊎ ((i : ℕ) × (length v.lanes + i ≡ j) × (get_elem? w.lanes i ≡ some m))

    in_both : (j : ℕ) (m : Known) → Split j m → IsKnown id m
    in_both j m = ⊎_elim
        (λ (t : (j < length v.lanes) × (get_elem? v.lanes j ≡ some m)).
        let b = k.seats.known id j v m at t.1 in (seat_stays m.cpu id b.0 (λ (e : id ≡ other). apart (sym e)), b.1, b.2))
        (λ (t : (i : ℕ) × (length v.lanes + i ≡ j) × (get_elem? w.lanes i ≡ some m)).
        let b = k.seats.known other t.0 w m second t.2 in (seat_moved m.cpu b.0, b.1, b.2))

    apart_both : (a b : ℕ) (m n : Known) → Split a m → Split b n → m.cpu ≡ n.cpu → a ≡ b
    apart_both a b m n x y same = ⊎_elim
        (λ (t : (a < length v.lanes) × (get_elem? v.lanes a ≡ some m)). ⊎_elim
        (λ (t' : (b < length v.lanes) × (get_elem? v.lanes b ≡ some n)). k.seats.distinct id a b v m n at t.1 t'.1 same)
        (λ (t' : (i : ℕ) × (length v.lanes + i ≡ b) × (get_elem? w.lanes i ≡ some n)). absurd
        (apart (sym ((k.seats.known other t'.0 w n second t'.2).0) ∙ (ap k.seats.seat (sym same) ∙ (k.seats.known id a v m at t.1).0))))
        y)
        (λ (t : (i : ℕ) × (length v.lanes + i ≡ a) × (get_elem? w.lanes i ≡ some m)). ⊎_elim
        (λ (t' : (b < length v.lanes) × (get_elem? v.lanes b ≡ some n)). absurd
        (apart (sym ((k.seats.known other t.0 w m second t.2).0) ∙ (ap k.seats.seat same ∙ (k.seats.known id b v n at t'.1).0))))
        (λ (t' : (i : ℕ) × (length v.lanes + i ≡ b) × (get_elem? w.lanes i ≡ some n)).
        let z = k.seats.distinct other t.0 t'.0 w m n second t.2 t'.2 same in let p = t.1 in let q = t'.1 in omega arith)
        y)
        x

    -- which views there are afterwards
    After : ℕ → View → Type 0
    After i u = ((i ≡ other) × (empty_view ≡ u)) ⊎ (((i ≡ id) × (both ≡ u)) ⊎ ((i ≢ other) × (i ≢ id) × (get_elem? s.views i ≡ some u)))

    after : (i : ℕ) (u : View) → get_elem? (set (set s.views id both) other empty_view) i ≡ some u → After i u
    after i u is = ⊎_elim
        (λ (t : (i ≡ other) × (empty_view ≡ u)). inl t)
        (λ (t : (i ≢ other) × (get_elem? (set s.views id both) i ≡ some u)). ⊎_elim
        (λ (t' : (i ≡ id) × (both ≡ u)). inr (inl t'))
        (λ (t' : (i ≢ id) × (get_elem? s.views i ≡ some u)). inr (inr (t.0, t'.0, t'.1)))
        (at_set s.views id i both u t.1))
        (at_set (set s.views id both) other i empty_view u is)

    now : Seats a.shape.cpus k.ghost.log (lane k.ghost.lanes) (set (set s.views id both) other empty_view)
    now = record {
      seat = seat;
      known = λ i j u m is here. ⊎_elim
          (λ (t : (i ≡ other) × (empty_view ≡ u)). absurd (some-ne-none m (sym (subst (λ (x : View). get_elem? x.lanes j ≡ some m) (sym t.1) here))))
          (λ (t : ((i ≡ id) × (both ≡ u)) ⊎ ((i ≢ other) × (i ≢ id) × (get_elem? s.views i ≡ some u))). ⊎_elim
          (λ (t' : (i ≡ id) × (both ≡ u)). subst (λ (x : ℕ). IsKnown x m) (sym t'.0)
          (in_both j m (append_at v.lanes w.lanes j m (subst (λ (x : View). get_elem? x.lanes j ≡ some m) (sym t'.1) here))))
          (λ (t' : (i ≢ other) × (i ≢ id) × (get_elem? s.views i ≡ some u)). let b = k.seats.known i j u m t'.2 here in (seat_stays m.cpu i b.0 t'.0, b.1, b.2))
          t)
          (after i u is);
      distinct = λ i a b u m n is here there same. ⊎_elim
          (λ (t : (i ≡ other) × (empty_view ≡ u)). absurd (some-ne-none m (sym (subst (λ (x : View). get_elem? x.lanes a ≡ some m) (sym t.1) here))))
          (λ (t : ((i ≡ id) × (both ≡ u)) ⊎ ((i ≢ other) × (i ≢ id) × (get_elem? s.views i ≡ some u))). ⊎_elim
          (λ (t' : (i ≡ id) × (both ≡ u)). apart_both a b m n
          (append_at v.lanes w.lanes a m (subst (λ (x : View). get_elem? x.lanes a ≡ some m) (sym t'.1) here))
          (append_at v.lanes w.lanes b n (subst (λ (x : View). get_elem? x.lanes b ≡ some n) (sym t'.1) there))
          same)
          (λ (t' : (i ≢ other) × (i ≢ id) × (get_elem? s.views i ≡ some u)). k.seats.distinct i a b u m n t'.2 here there same)
          t)
          (after i u is);
      kept = λ i u is. ⊎_elim
          (λ (t : (i ≡ other) × (empty_view ≡ u)). subst (λ (x : View). IsPrefix x.kept k.ghost.log) t.1 (k.ghost.log, refl))
          (λ (t : ((i ≡ id) × (both ≡ u)) ⊎ ((i ≢ other) × (i ≢ id) × (get_elem? s.views i ≡ some u))). ⊎_elim
          (λ (t' : (i ≡ id) × (both ≡ u)). subst (λ (x : View). IsPrefix x.kept k.ghost.log) t'.1 (k.seats.kept id v at))
          (λ (t' : (i ≢ other) × (i ≢ id) × (get_elem? s.views i ≡ some u)). k.seats.kept i u t'.2)
          t)
          (after i u is);
    }

-- a seat that has learned the whole history
pub learns : (a : About) (slots id : ℕ) (me : Sat) → Allows (Kept a) slots id me 0 (λ n. n) (λ n m. Learned me m)
learns a slots id me s k size at fits = (
  u,
  keeps,
  tt,
  rw (set-get_or s.words 0) (record { sized = k.sized; ghost = k.ghost; rule = k.rule; seats = now }),
  record {
    after = refl;
    within = λ j l here. (let b = k.seats.known id j me.0 l at here in (
      subst (λ (x : Known). IsPrefix x.seen k.ghost.log) b.2 (k.rule.logged.begins l.cpu b.1),
      ap (λ (x : Known). events_of l.cpu x.seen)
          (sym b.2) ∙ k.rule.logged.own l.cpu b.1,
    ));
  },
)
  where
    u : View
    u = view me.0.lanes k.ghost.log

    now : Seats a.shape.cpus k.ghost.log (lane k.ghost.lanes) (set s.views id u)
    now = record {
      seat = k.seats.seat;
      known = λ i j x l is here. ⊎_elim
          (λ (t : (i ≡ id) × (u ≡ x)).
          let b = k.seats.known id j me.0 l at (subst (λ (y : View). get_elem? y.lanes j ≡ some l) (sym t.1) here) in (b.0 ∙ sym t.0, b.1, b.2))
          (λ (t : (i ≢ id) × (get_elem? s.views i ≡ some x)). k.seats.known i j x l t.1 here)
          (at_set s.views id i u x is);
      distinct = λ i a b x l m is here there same. ⊎_elim
          (λ (t : (i ≡ id) × (u ≡ x)). k.seats.distinct id a b me.0 l m at
          (subst (λ (y : View). get_elem? y.lanes a ≡ some l) (sym t.1) here)
          (subst (λ (y : View). get_elem? y.lanes b ≡ some m) (sym t.1) there) same)
          (λ (t : (i ≢ id) × (get_elem? s.views i ≡ some x)). k.seats.distinct i a b x l m t.1 here there same)
          (at_set s.views id i u x is);
      kept = λ i x is. ⊎_elim
          (λ (t : (i ≡ id) × (u ≡ x)). subst (λ (y : View). IsPrefix y.kept k.ghost.log) t.1 (prefix_refl k.ghost.log))
          (λ (t : (i ≢ id) × (get_elem? s.views i ≡ some x)). k.seats.kept i x t.1)
          (at_set s.views id i u x is);
    }

-- a copy of what a seat keeps of the history
pub copies : (a : About) (id : ℕ) (v : View) → Splits (Kept a) id v v (onlooker v)
copies a id v s k at = record {
  sized = k.sized;
  ghost = k.ghost;
  rule = k.rule;
  seats = subst
      (λ (l : List View). Seats a.shape.cpus k.ghost.log (lane k.ghost.lanes) (l ++ onlooker v ∷ [])) (sym (set_again s.views id v at)) now;
}
  where
    now : Seats a.shape.cpus k.ghost.log (lane k.ghost.lanes) (s.views ++ onlooker v ∷ [])
    now = record {
      seat = k.seats.seat;
      known = λ i j u l is here. ⊎_elim
          (λ (t : get_elem? s.views i ≡ some u). k.seats.known i j u l t here)
          (λ (t : (i ≡ length s.views) × (onlooker v ≡ u)). absurd (some-ne-none l (sym (subst (λ (x : View). get_elem? x.lanes j ≡ some l) (sym t.1) here))))
          (snoc_at s.views (onlooker v) u i is);
      distinct = λ i j j' u l m is here there same. ⊎_elim
          (λ (t : get_elem? s.views i ≡ some u). k.seats.distinct i j j' u l m t here there same)
          (λ (t : (i ≡ length s.views) × (onlooker v ≡ u)). absurd (some-ne-none l (sym (subst (λ (x : View). get_elem? x.lanes j ≡ some l) (sym t.1) here))))
          (snoc_at s.views (onlooker v) u i is);
      kept = λ i u is. ⊎_elim
          (λ (t : get_elem? s.views i ≡ some u). k.seats.kept i u t)
          (λ (t : (i ≡ length s.views) × (onlooker v ≡ u)). subst (λ (x : View). IsPrefix x.kept k.ghost.log) t.1 (k.seats.kept id v at))
          (snoc_at s.views (onlooker v) u i is);
    }

-- a list in which no CPU has an event is empty
no_events : (log : List Entry) → ((c : ℕ) → events_of c log ≡ []) → log ≡ []
no_events [] h = refl
no_events (x ∷ xs) h = absurd (full (sym (ap (λ (b : Bool). if b then x.event ∷ events_of x.cpu xs else events_of x.cpu xs)
    (eq-eqb x.cpu x.cpu refl)) ∙ h x.cpu))
  where
    full : x.event ∷ events_of x.cpu xs ≡ [] → ⊥
    full e = cc

front_nil : (xs ys : List Event) → xs ++ ys ≡ [] → xs ≡ []
front_nil [] ys e = refl
front_nil (x ∷ xs) ys e = absurd (cc)

-- where nobody has a lock, each segment shows its share
at_rest_shows : (a : About) (w : Place → ℕ) (g : Ghost) (r : Rule a w g) → ((c : ℕ) → c < a.shape.cpus → g.lanes.locks c ≡ []) → (m s : ℕ) →
    IsBorn a g.depths m s → IsShare a.seed (shape_at a m) (home_by a m (g.depths m s)) (words_by_place w) m s (g.linked m)
at_rest_shows a w g r idle m s at_s =
    let seg : Segment a g.depths (words_by_place w) (w (Stamp m s)) (g.eras m s) m s (g.linked m) = r.segments m s at_s in
    let even : w (Stamp m s) % 2 ≡ 0 = ⊎_elim
    (λ (e : w (Stamp m s) % 2 ≡ 0). e)
    (λ (o : w (Stamp m s) % 2 ≡ 1). absurd
    (let h = r.held m s at_s o in
    let z : times_lock m s (g.lanes.locks (g.eras m s).writer) ≡ 0 = ap (times_lock m s) (idle (g.eras m s).writer h.0) in
    let y = h.1 in omega arith))
    (even_or_odd (w (Stamp m s))) in
    let d = seg.at_rest even in
    share_agrees a.seed (shape_at a m) (home_by a m (g.depths m s)) (words_by_place w) (g.eras m s).old m s (g.linked m) (seg.clean d).1 (seg.shows d)

-- where all lanes are in one seat that has learned the history, it is the whole, and the words keep the rule with it
pub closes : (a : About) (id : ℕ) (v : View) (ws : List ℕ) (xs : List (Unit {0})) → Final (Seen (Kept a) id v) ws xs
    → ((c : ℕ) → c < a.shape.cpus → (k : ℕ) × (l : Known) × (l.cpu ≡ c) × (get_elem? v.lanes k ≡ some l) × (l.locks ≡ []) × (l.fresh ≡ []))
    → ((k : ℕ) (l : Known) → get_elem? v.lanes k ≡ some l → HasSeenBeginning l v.kept) → KeepsWholeHistory a v ws
closes a id v ws xs final all within =
    let s' = final.0 in
    let k = final.1.0 in
    let at = final.1.1 in
    let begins = k.seats.kept id v at in
    let none_left : (c : ℕ) → events_of c begins.0 ≡ [] = λ c. rest_has_none c v.kept begins.0 (dite (dec_lt c a.shape.cpus)
    (λ (inside : c < a.shape.cpus).
    let m = all c inside in
    let mine = within m.0 m.1 m.3 in
    let b = k.seats.known id m.0 v m.1 at m.3 in
    let own : events_of c m.1.seen ≡ events_of c k.ghost.log = subst (λ (d : ℕ). events_of d m.1.seen ≡ events_of d k.ghost.log) m.2
    (ap (λ (x : Known). events_of m.1.cpu x.seen) (sym b.2) ∙ k.rule.logged.own m.1.cpu b.1) in
    let seen : events_of c m.1.seen ≡ events_of c v.kept = subst (λ (d : ℕ). events_of d m.1.seen ≡ events_of d v.kept) m.2 mine.1 in
    sym seen ∙ (own ∙ ap (events_of c) (sym begins.1)))
    (λ (past : c < a.shape.cpus → ⊥).
    let gone : events_of c (v.kept ++ begins.0) ≡ [] = ap (events_of c) begins.1 ∙ k.rule.logged.others c (grind arith) in
    front_nil (events_of c v.kept) (events_of c begins.0) (sym (events_of-append c v.kept begins.0) ∙ gone) ∙ sym gone)) in
    let whole : v.kept ≡ k.ghost.log = sym (append-nil v.kept) ∙ (ap (λ (l : List Entry). v.kept ++ l) (sym (no_events begins.0 none_left)) ∙ begins.1) in
    let idle : (c : ℕ) → c < a.shape.cpus → k.ghost.lanes.locks c ≡ [] = λ c inside.
    let m = all c inside in
    let b = k.seats.known id m.0 v m.1 at m.3 in
    subst (λ (d : ℕ). k.ghost.lanes.locks d ≡ []) m.2 (ap (λ (x : Known). x.locks) b.2 ∙ m.4) in
    let empty : (c : ℕ) → c < a.shape.cpus → k.ghost.lanes.fresh c ≡ [] = λ c inside.
    let m = all c inside in
    let b = k.seats.known id m.0 v m.1 at m.3 in
    subst (λ (d : ℕ). k.ghost.lanes.fresh d ≡ []) m.2 (ap (λ (x : Known). x.fresh) b.2 ∙ m.5) in
    record {
      ghost = k.ghost;
      whole = whole;
      empty = empty;
      rule = subst (λ (w : List ℕ). Rule a (mem a.shape w) k.ghost) final.2 k.rule;
      shows = λ m s at_s. subst (λ (w : List ℕ). IsShare a.seed (shape_at a m) (home_by a m (k.ghost.depths m s)) (image a w) m s
          (k.ghost.linked m)) final.2 (at_rest_shows a (mem a.shape s'.words) k.ghost k.rule idle m s at_s);
    }
