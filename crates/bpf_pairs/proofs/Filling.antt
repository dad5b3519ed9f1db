-- The store that updates of pairs leave, one after the other.
use Rattle.std.proofs.Common.{◌≡◌, ◌≢◌, ℕ, ◌+◌, ◌-◌, ◌/◌, ◌%◌, ◌<◌, ◌≤◌, ◌==◌, ◌&&◌, ◌||◌, not, Bool, true, false, cond, if◌then◌else◌}
use Rattle.std.proofs.Common.{List, [], ◌∷◌, ◌++◌, length, map, Option, Some, None, is_some, slice_get, inl, inr, All, refl, sym, ap, subst}
use Rattle.std.proofs.Common.{◌∙◌, arith, rules, eq-eqb, ne_eqb}
use Rattle.std.proofs.lemmas.Cmp.{nat_list_cmp_total}
use Rattle.std.proofs.lemmas.List.{append-nil, append_assoc}
use Rattle.std.proofs.lemmas.Option.{slice_get_within}
use Rattle.std.proofs.lemmas.List.Elements.{All-append, All-cons, All-head, All-nil, All-tail}
use Rattle.std.proofs.lemmas.Slice.Eq.{bytes_eq-Decides}
use Rattle.std.specs.Str.{bytes_eq}
use Rattle.std.specs.FinMap.{get, insert, len, get-empty, len-empty, len-insert}
use Rattle.std.specs.Ordering.{nat_cmp}
use Rattle.std.specs.Cmp.Lexicographic.{slice_cmp}
use Rattle.bpf_shared.specs.declared.events.Event.TheVariants.{End, Update}
use Rattle.bpf_shared.specs.declared.events.Entry.{Entry}
use Rattle.bpf_shared.specs.declared.events.MapAnswer.TheVariants.{Done, Full}
use Rattle.bpf_shared.specs.declared.shapes.MapShape.{MapShape}
use Rattle.bpf_shared.specs.First.{first_of}
use Rattle.bpf_shared.specs.Shape.{Shape, IsShape, IsMap, IsMapShape, IsPairOf, IsApart, IsIn, elements, element_span, element_stride}
use Rattle.bpf_shared.specs.Store.{KeyMap, Value, Plain, never, as_made, IsLive, IsFixed, fixed_value}
use Rattle.bpf_shared.specs.Events.{after_begin, after_end, after_update, kept_after, refusals, MayLie}
use Rattle.bpf_shared.specs.Choice.{IsTaken, IsLowestFree, PlainlyAllowed}
use Rattle.bpf_shared.specs.History.{PlainlyLegal, entry}
use Rattle.bpf_shared.specs.Sound.{IsSoundStore}
use Rattle.bpf_shared.proofs.Puts.{equal_or_not, put-same, put-other, put_cases, insert_cases}
use Rattle.bpf_shared.proofs.Places.{reached}
use Rattle.bpf_shared.proofs.Fixed.{element_apart}
use Rattle.bpf_shared.proofs.Soundness.{as_made_sound, after_begin_sound, allowed_sound, plainly_sound}
use Rattle.bpf_shared.proofs.Lawful.{calls_have_one_reply, leads_new}
use Rattle.bpf_pairs.specs.Pairs.{Pair, ArePairs, AreNew, has_key, pairs_in}
use Rattle.bpf_pairs.specs.Putting.{put_events, first_history}
use Rattle.bpf_pairs.specs.Filled.{with_pair, with_pairs, filled}
use Rattle.bpf_pairs.specs.Laws.{PairsArePut, PutsLeaveOneStore}

-- ---- the pairs of one map
one_step : (b : Bool) (n k l : ℕ) → n ≡ k + l → (if b then n + 1 else n) ≡ (if b then k + 1 else k) + l
one_step true n k l e = omega arith
one_step false n k l e = e

pairs_in-append : (m : ℕ) (xs ys : List Pair) → pairs_in m (xs ++ ys) ≡ pairs_in m xs + pairs_in m ys
pairs_in-append m [] ys = omega arith
pairs_in-append m (x ∷ xs) ys = one_step (x.map == m) (pairs_in m (xs ++ ys)) (pairs_in m xs) (pairs_in m ys) (pairs_in-append m xs ys)

pub one_more : (m : ℕ) (p : Pair) (before : List Pair) → p.map ≡ m → pairs_in m (before ++ p ∷ []) ≡ pairs_in m before + 1
one_more m p before e = pairs_in-append m before (p ∷ []) ∙ ap (λ (b : Bool). pairs_in m before + (if b then 1 else 0)) (eq-eqb p.map m e)

pub no_more : (m : ℕ) (p : Pair) (before : List Pair) → p.map ≢ m → pairs_in m (before ++ p ∷ []) ≡ pairs_in m before
no_more m p before ne =
    let e : pairs_in m (before ++ p ∷ []) ≡ pairs_in m before + 0 = pairs_in-append m before (p ∷ []) ∙ ap
    (λ (b : Bool). pairs_in m before + (if b then 1 else 0)) (ne_eqb p.map m ne) in
    omega arith

or_true : (a b : Bool) → b ≡ true → (a || b) ≡ true
or_true true b e = refl
or_true false b e = e

more_true : (b c d : Bool) → (c ≡ true → d ≡ true) → (b || c) ≡ true → (b || d) ≡ true
more_true true c d f e = refl
more_true false c d f e = f e

has_more : (m : ℕ) (key : List ℕ) (xs ys : List Pair) → has_key m key xs ≡ true → has_key m key (xs ++ ys) ≡ true
has_more m key [] ys e = cc
has_more m key (x ∷ xs) ys e = more_true (x.map == m && bytes_eq x.key key) (has_key m key xs) (has_key m key (xs ++ ys)) (has_more m key xs ys) e

itself : (p : Pair) → (p.map == p.map && bytes_eq p.key p.key) ≡ true
itself p = ap (λ (b : Bool). b && bytes_eq p.key p.key) (eq-eqb p.map p.map refl) ∙ same
  where
    same : bytes_eq p.key p.key ≡ true
    same = search (rules, bytes_eq-Decides)

has_last : (p : Pair) (before : List Pair) → has_key p.map p.key (before ++ p ∷ []) ≡ true
has_last p [] = ap (λ (b : Bool). b || false) (itself p)
has_last p (x ∷ xs) = or_true (x.map == p.map && bytes_eq x.key p.key) (has_key p.map p.key (xs ++ p ∷ [])) (has_last p xs)

-- ---- elements
one_shape : (maps : List MapShape) (m : ℕ) (g k : MapShape) → IsMap maps m g → IsMap maps m k → g ≡ k
one_shape maps m g k a b = go g k (sym a ∙ b)
  where
    go : (x y : MapShape) → Some x ≡ Some y → x ≡ y
    go x y e = cc

module _ (h : Shape) (is : IsShape h) where
  shaped : (m : ℕ) (g : MapShape) → IsMap h.maps m g → IsMapShape g
  shaped m g at = is.each m g at

  few : (m : ℕ) (g : MapShape) → IsMap h.maps m g → m < 16
  few m g at = let l = is.count in let k = slice_get_within h.maps m g at in omega arith

  -- two elements with an address in common are one
  one_place : (m n i j a : ℕ) (g k : MapShape) → IsMap h.maps m g → IsMap h.maps n k → i < elements g → j < elements k → IsIn a
      (element_span m g i) → IsIn a (element_span n k j) → (m ≡ n) × (i ≡ j)
  one_place m n i j a g k at to li lj x y =
      let u = reached m i a g (shaped m g at) li x in
      let t = reached n j a k (shaped n k to) lj y in
      let e : m ≡ n = sym u.0 ∙ t.0 in
      let same : g ≡ k = one_shape h.maps n g k (subst (λ (z : ℕ). IsMap h.maps z g) e at) to in
      (e, sym u.1 ∙ (ap (λ (z : MapShape). (a - 0x10_0000_0000) % 0x1000_0000 / element_stride z) same ∙ t.1))

  -- ---- what is there after these pairs
  pub record Has (before : List Pair) (s : Plain) : Type 0 where
    pub shape : s.shape ≡ h
    pub sound : IsSoundStore s
    pub running : s.running 0 ≡ true
    pub held : (c v : ℕ) → s.held c v ≡ false
    pub kept : (c v : ℕ) → s.kept c v ≡ false
    pub count : (m : ℕ) → len (s.maps m) ≡ pairs_in m before
    pub leads : (m : ℕ) (key : List ℕ) (v : ℕ) → get (s.maps m) key ≡ Some v → (has_key m key before ≡ true)
        × ((g : MapShape) × IsMap h.maps m g × ((i : ℕ) × (i < pairs_in m before) × (i < elements g) × ((s.value v).span ≡ element_span m g i)))
    pub lies : (m : ℕ) (g : MapShape) (i : ℕ) → IsMap h.maps m g → i < pairs_in m before → IsTaken s m g i

  first : Has [] (after_begin (as_made h) 0)
  first = record {
    shape = refl;
    sound = after_begin_sound (as_made h) 0 (as_made_sound h is);
    running = put-same never 0 0 true refl;
    held = λ c v. elim (put_cases (λ (d : ℕ). never) 0 c never) [ inl k ↦ ap (λ (f : ℕ → Bool). f v) k.1 | inr k ↦ ap (λ (f : ℕ → Bool). f v) k.1 ];
    kept = λ c v. refl;
    count = λ m. len-empty (slice_cmp nat_cmp) ℕ;
    leads = λ m key v e. absurd (let k = sym (get-empty {X = ℕ} (slice_cmp nat_cmp) key) ∙ e in cc);
    lies = λ m g i at l. absurd (omega arith);
  }

  -- ---- one pair more
  module _ (before : List Pair) (p : Pair) (s : Plain) (has : Has before s) (g : MapShape) (at : IsMap h.maps p.map g)
      (long : length p.key ≡ g.key) (wide : length p.value ≡ g.value) (new : has_key p.map p.key before ≡ false)
      (room : pairs_in p.map before < g.max) where
    abbrev pub x : Value
    x = record { bytes = p.value; span = element_span p.map g (pairs_in p.map before) }

    abbrev pub t : Plain
    t = after_update s p.map p.key x

    inside : pairs_in p.map before < elements g
    inside = omega (arith, room)

    free_key : get (s.maps p.map) p.key ≡ None
    free_key = go (get (s.maps p.map) p.key) refl
      where
        go : (o : Option ℕ) → get (s.maps p.map) p.key ≡ o → get (s.maps p.map) p.key ≡ None
        go None e = e
        go (Some v) e = absurd (let k = (has.leads p.map p.key v e).0 in cc)

    at_s : IsMap s.shape.maps p.map g
    at_s = subst (λ (z : Shape). IsMap z.maps p.map g) (sym has.shape) at

    not_full : (len (s.maps p.map) == g.max) ≡ false
    not_full = ne_eqb (len (s.maps p.map)) g.max (λ e. let c = has.count p.map in absurd (omega (arith, room)))

    accepted : first_of (refusals s p.map g p.key 0) ≡ None
    accepted =
        ap (λ (o : Option ℕ). if (not (is_some o) && (len (s.maps p.map) == g.max)) then Some Full else None) free_key
        ∙ ap (λ (b : Bool). if b then Some Full else None) not_full

    free_of : (v : ℕ) → IsLive s v → IsApart (element_span p.map g (pairs_in p.map before)) (s.value v).span
    free_of v (inl q) =
        let l = has.leads q.0 q.1.0 v q.1.1 in
        subst (IsApart (element_span p.map g (pairs_in p.map before))) (sym l.1.2.3)
        (λ a y z.
        let e = one_place p.map q.0 (pairs_in p.map before) l.1.2.0 a g l.1.0 at l.1.1 inside l.1.2.2 y z in
        let c : pairs_in p.map before ≡ pairs_in q.0 before = ap (λ (n : ℕ). pairs_in n before) e.0 in
        let b = l.1.2.1 in let d = e.1 in absurd (omega arith))
    free_of v (inr (inl q)) = absurd (let e : false ≡ true = sym (has.held q.0 v) ∙ q.1 in cc)
    free_of v (inr (inr f)) =
        subst (IsApart (element_span p.map g (pairs_in p.map before))) (sym (has.sound.fixed.spans v f))
        (subst (λ (z : Shape). IsFixed z v → IsApart (element_span p.map g (pairs_in p.map before)) (fixed_value z v).span) (sym has.shape)
        (element_apart h is p.map (pairs_in p.map before) v g (few p.map g at) (shaped p.map g at) inside) f)

    may_lie : MayLie s p.map g (element_span p.map g (pairs_in p.map before))
    may_lie = record { element = (pairs_in p.map before, inside, refl); apart = free_of }

    not_taken : IsTaken s p.map g (pairs_in p.map before) → ⊥
    not_taken (v, inr k, e) = let f : false ≡ true = sym (has.kept k.0 v) ∙ k.1 in cc
    not_taken (v, inl q, e) =
        let l = has.leads p.map q.0 v q.1 in
        let some = (shaped p.map g at).value.0 in
        let z : ℕ = (element_span p.map g (pairs_in p.map before)).at in
        let here : IsIn z (element_span p.map g (pairs_in p.map before)) = (omega arith, omega arith) in
        let there : IsIn z (element_span p.map l.1.0 l.1.2.0) = subst (IsIn z) (sym e ∙ l.1.2.3) here in
        let one = (one_place p.map p.map (pairs_in p.map before) l.1.2.0 z g l.1.0 at l.1.1 inside l.1.2.2 here there).1 in
        let b = l.1.2.1 in omega arith

    lowest : IsLowestFree s p.map g (pairs_in p.map before)
    lowest = record { inside = inside; free = not_taken; lowest = λ j l. has.lies p.map g j at l }

    made : (t.value s.made).span ≡ element_span p.map g (pairs_in p.map before)
    made = ap (λ (y : Value). y.span) (put-same s.value s.made s.made x refl)

    pub allowed : PlainlyAllowed s 0 (Update p.map p.key p.value 0 Done) t
    allowed = (
      (has.running, (g, at_s, long, wide, (accepted, (element_span p.map g (pairs_in p.map before), may_lie, refl)))),
      (g, pairs_in p.map before, at_s, lowest, made),
    )

    -- a value that was there
    old_value : (n : ℕ) (key : List ℕ) (v : ℕ) → get (s.maps n) key ≡ Some v → t.value v ≡ s.value v
    old_value n key v e = put-other s.value s.made v x (λ (same : v ≡ s.made). let l = has.sound.live_made v (inl (n, (key, e))) in absurd (omega arith))

    -- the pairs of a map, as far as they were there
    was : (n : ℕ) → pairs_in n before ≤ pairs_in n (before ++ p ∷ [])
    was n = let e = pairs_in-append n before (p ∷ []) in omega arith

    abbrev pub Leads : ℕ → List ℕ → ℕ → Type 0
    Leads n key v = (has_key n key (before ++ p ∷ []) ≡ true)
        × ((k : MapShape) × IsMap h.maps n k × ((j : ℕ) × (j < pairs_in n (before ++ p ∷ [])) × (j < elements k) × ((t.value v).span ≡ element_span n k j)))

    as_before : (n : ℕ) (key : List ℕ) (v : ℕ) → get (s.maps n) key ≡ Some v → Leads n key v
    as_before n key v e =
        let l = has.leads n key v e in
        let w = was n in let b = l.1.2.1 in
        (has_more n key before (p ∷ []) l.0, (l.1.0, l.1.1, (l.1.2.0, omega arith, l.1.2.2, ap (λ (y : Value). y.span) (old_value n key v e) ∙ l.1.2.3)))

    the_new : (v : ℕ) → Some s.made ≡ Some v → Leads p.map p.key v
    the_new v e =
        let same : s.made ≡ v = cc in
        let c = one_more p.map p before refl in
        subst (Leads p.map p.key) same (has_last p before, (g, at, (pairs_in p.map before, omega arith, inside, made)))

    in_this : (key : List ℕ) (v : ℕ) → get (insert (s.maps p.map) p.key s.made) key ≡ Some v → Leads p.map key v
    in_this key v e = elim (insert_cases (s.maps p.map) p.key s.made key) [
      | inl k ↦ subst (λ (q : List ℕ). Leads p.map q v) (sym k.0) (the_new v (sym k.1 ∙ e))
      | inr k ↦ as_before p.map key v (sym k ∙ e)
    ]

    leads_now : (n : ℕ) (key : List ℕ) (v : ℕ) → get (t.maps n) key ≡ Some v → Leads n key v
    leads_now n key v e = elim (put_cases s.maps p.map n (insert (s.maps p.map) p.key s.made)) [
      | inl k ↦ subst (λ (z : ℕ). Leads z key v) (sym k.0) (in_this key v (ap (λ (q : KeyMap). get q key) (sym k.1) ∙ e))
      | inr k ↦ as_before n key v (ap (λ (q : KeyMap). get q key) (sym k.1) ∙ e)
    ]

    count_now : (n : ℕ) → len (t.maps n) ≡ pairs_in n (before ++ p ∷ [])
    count_now n = elim (put_cases s.maps p.map n (insert (s.maps p.map) p.key s.made)) [
      | inl k ↦ ap (λ (q : KeyMap). len q) k.1
          ∙ (len-insert nat_list_cmp_total (s.maps p.map) p.key s.made
          ∙ (ap (λ (o : Option ℕ). cond (is_some o) (len (s.maps p.map)) (len (s.maps p.map) + 1)) free_key
          ∙ (ap (λ (c : ℕ). c + 1) (has.count p.map ∙ ap (λ (z : ℕ). pairs_in z before) (sym k.0)) ∙ sym (one_more n p before (sym k.0)))))
      | inr k ↦ ap (λ (q : KeyMap). len q) k.1 ∙ (has.count n ∙ sym (no_more n p before (λ e. k.0 (sym e))))
    ]

    -- a key that leads to an element leads there still
    still : (n j : ℕ) (k : MapShape) → IsTaken s n k j → IsTaken t n k j
    still n j k (v, inr q, e) = absurd (let f : false ≡ true = sym (has.kept q.0 v) ∙ q.1 in cc)
    still n j k (v, inl q, e) = (v, inl (q.0, found), ap (λ (y : Value). y.span) (old_value n q.0 v q.1) ∙ e)
      where
        found : get (t.maps n) q.0 ≡ Some v
        found = elim (put_cases s.maps p.map n (insert (s.maps p.map) p.key s.made)) [
          | inr r ↦ ap (λ (z : KeyMap). get z q.0) r.1 ∙ q.1
          | inl r ↦ ap (λ (z : KeyMap). get z q.0) r.1 ∙ elim (insert_cases (s.maps p.map) p.key s.made q.0) [
            | inr w ↦ w ∙ (ap (λ (z : ℕ). get (s.maps z) q.0) (sym r.0) ∙ q.1)
            | inl w ↦ absurd (let f : None ≡ Some v = sym free_key ∙ (ap (λ (z : List ℕ). get (s.maps p.map) z) (sym w.0) ∙ (ap (λ (z : ℕ). get (s.maps z) q.0) (sym r.0) ∙ q.1)) in
                cc)
          ]
        ]

    newest : IsTaken t p.map g (pairs_in p.map before)
    newest = (
      s.made,
      inl (
        p.key,
        ap (λ (z : KeyMap). get z p.key) (put-same s.maps p.map p.map (insert (s.maps p.map) p.key s.made) refl) ∙ leads_new
            (s.maps p.map) p.key s.made,
      ),
      made,
    )

    lies_now : (n : ℕ) (k : MapShape) (j : ℕ) → IsMap h.maps n k → j < pairs_in n (before ++ p ∷ []) → IsTaken t n k j
    lies_now n k j to l = elim (equal_or_not p.map n) [
      | inr ne ↦ still n j k (has.lies n k j to (let e = no_more n p before ne in omega arith))
      | inl e ↦ elim (equal_or_not j (pairs_in n before)) [
        | inr other ↦ still n j k (has.lies n k j to (let c = one_more n p before e in omega arith))
        | inl last ↦
            let same : g ≡ k = one_shape h.maps n g k (subst (λ (z : ℕ). IsMap h.maps z g) e at) to in
            subst (λ (z : ℕ). IsTaken t n k z) (sym last)
            (subst (λ (z : MapShape). IsTaken t n z (pairs_in n before)) same
            (subst (λ (z : ℕ). IsTaken t z g (pairs_in z before)) e newest))
      ]
    ]

    pub has_now : Has (before ++ p ∷ []) t
    has_now = record {
      shape = has.shape;
      sound = allowed_sound s t 0 (Update p.map p.key p.value 0 Done) has.sound allowed.0;
      running = has.running;
      held = has.held;
      kept = λ c v. ap (λ (o : Option ℕ). kept_after s o c v) free_key ∙ has.kept c v;
      count = count_now;
      leads = leads_now;
      lies = lies_now;
    }

    -- the store that the definition has
    pub is_it : with_pair s p (pairs_in p.map before) (slice_get s.shape.maps p.map) ≡ t
    is_it = ap (with_pair s p (pairs_in p.map before)) at_s

  -- ---- all pairs, and the end of the run
  puts : (more before : List Pair) (s : Plain) → Has before s → All (λ p. IsPairOf h.maps p.map p.key p.value) more → AreNew before more
      → ((m : ℕ) (g : MapShape) → IsMap h.maps m g → pairs_in m before + pairs_in m more ≤ g.max)
      → PlainlyLegal s (map (entry 0) (put_events more ++ End ∷ [])) (after_end (with_pairs s before more) 0)
  puts [] before s has sized new room = (after_end s 0, ((has.running, refl), tt), refl)
  puts (p ∷ ps) before s has sized new room =
      let of = All-head (λ (q : Pair). IsPairOf h.maps q.map q.key q.value) p ps sized in
      let u = with_pair s p (pairs_in p.map before) (slice_get s.shape.maps p.map) in
      let here : pairs_in p.map (p ∷ ps) ≡ pairs_in p.map ps + 1 = ap (λ (b : Bool). if b then pairs_in p.map ps + 1 else pairs_in p.map ps)
      (eq-eqb p.map p.map refl) in
      let fits : pairs_in p.map before < of.0.max = (let r = room p.map of.0 of.1 in omega arith) in
      let it = is_it before p s has of.0 of.1 of.2 of.3 new.0 fits in
      let does = allowed before p s has of.0 of.1 of.2 of.3 new.0 fits in
      let later = has_now before p s has of.0 of.1 of.2 of.3 new.0 fits in (
        u,
        subst (PlainlyAllowed s 0 (Update p.map p.key p.value 0 Done)) (sym it) does,
        puts ps (before ++ p ∷ []) u (subst (Has (before ++ p ∷ [])) (sym it) later)
            (All-tail (λ (q : Pair). IsPairOf h.maps q.map q.key q.value) p ps sized) new.1
            (λ m g to. let r = room m g to in let a = pairs_in-append m before (p ∷ []) in let b = pairs_in-append m (p ∷ []) ps in omega arith),
      )

pub pairs_are_put : PairsArePut
pairs_are_put h [] is are = refl
pairs_are_put h (p ∷ ps) is are = (
  after_begin (as_made h) 0,
  ((let c = is.cpus.0 in omega arith, refl, refl), tt),
  puts h is (p ∷ ps) [] (after_begin (as_made h) 0) (first h is) are.sized are.new (λ m g to. let r = are.room m g to in omega arith),
)

-- ---- no other store
one_way : (log : List Entry) (s t u : Plain) → IsSoundStore s → PlainlyLegal s log t → PlainlyLegal s log u → t ≡ u
one_way [] s t u so a b = sym a ∙ b
one_way (e ∷ es) s t u so a b =
    let same = (calls_have_one_reply s a.0 b.0 e.cpu e.event e.event so a.1 b.1 refl).1 in
    one_way es a.0 t u (allowed_sound s a.0 e.cpu e.event so a.1.0) a.2 (subst (λ (z : Plain). PlainlyLegal z es u) (sym same) b.2)

pub puts_leave_one_store : PutsLeaveOneStore
puts_leave_one_store h ps s is are l = one_way (first_history ps) (as_made h) s (filled h ps) (as_made_sound h is) l (pairs_are_put h ps is are)

-- ---- what the store is
pub filled_sound : (h : Shape) (ps : List Pair) → IsShape h → ArePairs h.maps ps → IsSoundStore (filled h ps)
filled_sound h ps is are = plainly_sound (as_made h) (filled h ps) (first_history ps) (as_made_sound h is) (pairs_are_put h ps is are)

with_pair_shape : (s : Plain) (p : Pair) (i : ℕ) (o : Option MapShape) → (with_pair s p i o).shape ≡ s.shape
with_pair_shape s p i None = refl
with_pair_shape s p i (Some g) = refl

with_pairs_shape : (s : Plain) (before more : List Pair) → (with_pairs s before more).shape ≡ s.shape
with_pairs_shape s before [] = refl
with_pairs_shape s before (p ∷ ps) =
    with_pairs_shape (with_pair s p (pairs_in p.map before) (slice_get s.shape.maps p.map)) (before ++ p ∷ []) ps
    ∙ with_pair_shape s p (pairs_in p.map before) (slice_get s.shape.maps p.map)

pub filled_shape : (h : Shape) (ps : List Pair) → (filled h ps).shape ≡ h
filled_shape h [] = refl
filled_shape h (p ∷ ps) = with_pairs_shape (after_begin (as_made h) 0) [] (p ∷ ps)

-- ---- one pair more, after all others
new_more : (before ps : List Pair) (p : Pair) → AreNew before ps → has_key p.map p.key (before ++ ps) ≡ false → AreNew before (ps ++ p ∷ [])
new_more before [] p new e = (ap (has_key p.map p.key) (sym (append-nil before)) ∙ e, tt)
new_more before (q ∷ ps) p new e =
    (new.0, new_more (before ++ q ∷ []) ps p new.1 (ap (has_key p.map p.key) (append_assoc before (q ∷ []) ps) ∙ e))

pub are_more : (maps : List MapShape) (ps : List Pair) (p : Pair) → ArePairs maps ps → IsPairOf maps p.map p.key p.value → has_key p.map
    p.key ps ≡ false → ((g : MapShape) → IsMap maps p.map g → pairs_in p.map ps < g.max) → ArePairs maps (ps ++ p ∷ [])
are_more maps ps p are of new room = record {
  sized = All-append (λ q. IsPairOf maps q.map q.key q.value) ps (p ∷ []) are.sized
      (All-cons (λ q. IsPairOf maps q.map q.key q.value) p [] of (All-nil (λ q. IsPairOf maps q.map q.key q.value)));
  new = new_more [] ps p are.new new;
  room = λ m g at. elim (equal_or_not p.map m) [
    | inl e ↦ (let c = one_more m p ps e in let r = room g (subst (λ (k : ℕ). IsMap maps k g) (sym e) at) in
        let same : pairs_in p.map ps ≡ pairs_in m ps = ap (λ (k : ℕ). pairs_in k ps) e in omega arith)
    | inr ne ↦ (let c = no_more m p ps ne in let r = are.room m g at in omega arith)
  ];
}
