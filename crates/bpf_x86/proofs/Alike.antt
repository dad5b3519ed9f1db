-- Stores that differ in the bytes of values alone, and in what some CPUs hold: what isn't an access
-- to a value happens alike in both.
use Rattle.std.proofs.Common.{◌≡◌, ◌≢◌, ℕ, ◌+◌, Bool, true, false, List, Option, Some, None, ◌⊎◌, inl, inr, refl, sym, ap, subst, ◌∙◌}
use Rattle.std.specs.FinMap.{get}
use Rattle.bpf_shared.specs.declared.events.Span.{Span}
use Rattle.bpf_shared.specs.declared.events.Event.{Event}
use Rattle.bpf_shared.specs.declared.events.Event.TheVariants.{Begin, End, Lookup, Update, Delete, Keys, Load, Store, Atomic}
use Rattle.bpf_shared.specs.declared.events.MapAnswer.{MapAnswer}
use Rattle.bpf_shared.specs.declared.events.MapAnswer.TheVariants.{Done, Invalid, Busy, Exists, Absent, Full, NoMemory}
use Rattle.bpf_shared.specs.declared.shapes.MapShape.{MapShape}
use Rattle.bpf_shared.specs.Shape.{IsApart, element_span}
use Rattle.bpf_shared.specs.Store.{Value, Plain, put, never, IsLive}
use Rattle.bpf_shared.specs.Events.{span_of, after_begin, after_end, after_lookup, kept_after, after_update, after_delete, MayLie, Updates, Deletes}
use Rattle.bpf_shared.specs.Choice.{IsTaken, IsLowestFree, PlainlyAllowed}
use Rattle.bpf_shared.proofs.Puts.{put-same, put-other, put_cases, put_pair, put_pair-old, equal_or_not}

-- functions that are equal everywhere
pub same_functions : {A B : Type 0} (f g : A → B) → ((x : A) → f x ≡ g x) → f ≡ g
same_functions f g h = λ i. λ x. h x i

-- the second's bytes, and of some CPUs what it holds, may be others
pub record IsLike (but : ℕ → Type 0) (s p : Plain) : Type 0 where
  pub same : s ≡ record p { value = s.value; held = s.held }
  pub spans : (v : ℕ) → (s.value v).span ≡ (p.value v).span
  pub fewer : (c v : ℕ) → s.held c v ≡ true → p.held c v ≡ true
  pub others : (c : ℕ) → (but c → ⊥) → s.held c ≡ p.held c

-- an event's values: both stores have those of before; or one more, which is the same in both
abbrev pub HasValues : Plain → Plain → Plain → Plain → Type 0
HasValues s p s' p' =
    ((s'.value ≡ s.value) × (p'.value ≡ p.value) × (s'.made ≡ s.made))
    ⊎ ((x : Value) × (s'.value ≡ put s.value s.made x) × (p'.value ≡ put p.value p.made x) × (s'.held ≡ s.held) × (s'.made ≡ s.made + 1))

pub record Follows (but : ℕ → Type 0) (s p : Plain) (c : ℕ) (e : Event) (p' : Plain) : Type 0 where
  pub next : Plain
  pub allowed : PlainlyAllowed s c e next
  pub like : IsLike but next p'
  pub values : HasValues s p next p'

abbrev pub is_access : Event → Bool
is_access (Load a size found) = true
is_access (Store a size x) = true
is_access (Atomic a size op operand expected found) = true
is_access _ = false

module _ (but : ℕ → Type 0) (p : Plain) (g : ℕ → Value) (k : ℕ → ℕ → Bool)
    (spans : (v : ℕ) → (g v).span ≡ (p.value v).span)
    (fewer : (c v : ℕ) → k c v ≡ true → p.held c v ≡ true)
    (others : (c : ℕ) → (but c → ⊥) → k c ≡ p.held c) where
  abbrev here : Plain
  here = record p { value = g; held = k }

  like_here : IsLike but here p
  like_here = record { same = refl; spans = spans; fewer = fewer; others = others }

  -- ---- what a CPU held is gone
  none_fewer : (c d v : ℕ) → put k c never d v ≡ true → put p.held c never d v ≡ true
  none_fewer c d v h = elim (put_cases k c d never) [
    | inl q ↦ let no : false ≡ true = sym (ap (λ (f : ℕ → Bool). f v) q.1) ∙ h in cc
    | inr q ↦ ap (λ (f : ℕ → Bool). f v) (put-other p.held c d never q.0) ∙ fewer d v (sym (ap (λ (f : ℕ → Bool). f v) q.1) ∙ h)
  ]

  none_others : (c d : ℕ) → (but d → ⊥) → put k c never d ≡ put p.held c never d
  none_others c d ne = elim (equal_or_not d c) [
    | inl e ↦ put-same k c d never e ∙ sym (put-same p.held c d never e)
    | inr n ↦ put-other k c d never n ∙ others d ne ∙ sym (put-other p.held c d never n)
  ]

  begins : (c : ℕ) → PlainlyAllowed p c Begin (after_begin p c) → Follows but here p c Begin (after_begin p c)
  begins c a = record {
    next = after_begin here c;
    allowed = ((a.0.0, a.0.1, refl), tt);
    like = record { same = refl; spans = spans; fewer = none_fewer c; others = none_others c };
    values = inl (refl, refl, refl);
  }

  ends : (c : ℕ) → PlainlyAllowed p c End (after_end p c) → Follows but here p c End (after_end p c)
  ends c a = record {
    next = after_end here c;
    allowed = ((a.0.0, refl), tt);
    like = record { same = refl; spans = spans; fewer = none_fewer c; others = none_others c };
    values = inl (refl, refl, refl);
  }

  -- ---- lookups
  span_here : (o : Option ℕ) → span_of p o ≡ span_of here o
  span_here None = refl
  span_here (Some v) = ap Some (sym (spans v))

  one_more : (c v : ℕ) → k c ≡ p.held c → (d w : ℕ) → put k c (put (k c) v true) d w ≡ true → put p.held c (put (p.held c) v true) d w ≡ true
  one_more c v same d w h = elim (put_pair k c v d w h) [
    | inl e ↦ subst (λ (x : ℕ). put p.held c (put (p.held c) v true) x w ≡ true) (sym e.0)
        (ap (λ (f : ℕ → Bool). f w) (put-same p.held c c (put (p.held c) v true) refl) ∙ put-same (p.held c) v w true e.1)
    | inr was ↦ put_pair-old p.held c v d w (fewer d w was)
  ]

  more_others : (c v : ℕ) → k c ≡ p.held c → (d : ℕ) → (but d → ⊥) → put k c (put (k c) v true) d ≡ put p.held c (put (p.held c) v true) d
  more_others c v same d ne = elim (equal_or_not d c) [
    | inl e ↦ put-same k c d (put (k c) v true) e ∙ ap (λ (f : ℕ → Bool). put f v true) same ∙ sym (put-same p.held c d (put (p.held c) v true) e)
    | inr n ↦ put-other k c d (put (k c) v true) n ∙ others d ne ∙ sym (put-other p.held c d (put (p.held c) v true) n)
  ]

  looked_like : (c : ℕ) → (but c → ⊥) → (o : Option ℕ) → IsLike but (after_lookup here c o) (after_lookup p c o) × HasValues here p
      (after_lookup here c o) (after_lookup p c o)
  looked_like c ne None = (like_here, inl (refl, refl, refl))
  looked_like c ne (Some v) = (
    record { same = refl; spans = spans; fewer = one_more c v (others c ne); others = more_others c v (others c ne) },
    inl (refl, refl, refl),
  )

  looks : (c m : ℕ) (key : List ℕ) (found : Option Span) → (but c → ⊥) → PlainlyAllowed p c (Lookup m key found) (after_lookup p c (get (p.maps m) key))
      → Follows but here p c (Lookup m key found) (after_lookup p c (get (p.maps m) key))
  looks c m key found ne a =
      let r = looked_like c ne (get (p.maps m) key) in
      record {
        next = after_lookup here c (get (p.maps m) key);
        allowed = ((a.0.0, (a.0.1.0, a.0.1.1 ∙ span_here (get (p.maps m) key), refl)), tt);
        like = r.0;
        values = r.1;
      }

  -- ---- updates
  taken_here : (m i : ℕ) (h : MapShape) → IsTaken p m h i → IsTaken here m h i
  taken_here m i h (v, there, span) = (v, there, spans v ∙ span)

  taken_there : (m i : ℕ) (h : MapShape) → IsTaken here m h i → IsTaken p m h i
  taken_there m i h (v, there, span) = (v, there, sym (spans v) ∙ span)

  live_there : (v : ℕ) → IsLive here v → IsLive p v
  live_there v (inl found) = inl found
  live_there v (inr (inl (c, held))) = inr (inl (c, fewer c v held))
  live_there v (inr (inr fixed)) = inr (inr fixed)

  may_lie : (m : ℕ) (h : MapShape) (q : Span) → MayLie p m h q → MayLie here m h q
  may_lie m h q lies = record {
    element = lies.element;
    apart = λ v live. subst (IsApart q) (sym (spans v)) (lies.apart v (live_there v live));
  }

  lowest_here : (m i : ℕ) (h : MapShape) → IsLowestFree p m h i → IsLowestFree here m h i
  lowest_here m i h low = record {
    inside = low.inside;
    free = λ taken. low.free (taken_there m i h taken);
    lowest = λ j less. taken_here m j h (low.lowest j less);
  }

  kept_here : (o : Option ℕ) → kept_after here o ≡ kept_after p o
  kept_here None = refl
  kept_here (Some v) = refl

  update_like : (m : ℕ) (key : List ℕ) (x : Value) → IsLike but (after_update here m key x) (after_update p m key x)
  update_like m key x = record {
    same = ap (λ (kept : ℕ → ℕ → Bool). record (after_update here m key x) { kept = kept }) (kept_here (get (p.maps m) key));
    spans = λ v. elim (equal_or_not v p.made) [
      | inl e ↦ ap (λ (y : Value). y.span) (put-same g p.made v x e ∙ sym (put-same p.value p.made v x e))
      | inr ne ↦ ap (λ (y : Value). y.span) (put-other g p.made v x ne) ∙ spans v ∙ sym (ap (λ (y : Value). y.span) (put-other p.value p.made v x ne))
    ];
    fewer = fewer;
    others = others;
  }

  -- done, at the lowest free element
  update_done : (c m flags : ℕ) (key bytes : List ℕ) (t : Plain) → PlainlyAllowed p c (Update m key bytes flags Done) t → Follows but here p
      c (Update m key bytes flags Done) t
  update_done c m flags key bytes t a =
      let u = a.0.1 in
      let h = a.1.0 in
      let i = a.1.1 in
      let q : Span = u.4.1.0 in
      let made : t ≡ after_update p m key (record { bytes = bytes; span = q }) = u.4.1.2 in
      let x : Value = record { bytes = bytes; span = q } in
      let new_span : (put p.value p.made x p.made).span ≡ element_span m h i = ap (λ (z : Plain). (z.value p.made).span) (sym made) ∙ a.1.4 in
      let spanned : (put g p.made x p.made).span ≡ element_span m h i =
      ap (λ (y : Value). y.span) (put-same g p.made p.made x refl) ∙ sym (ap (λ (y : Value). y.span) (put-same p.value p.made p.made x refl)) ∙ new_span in
      subst (λ (z : Plain). Follows but here p c (Update m key bytes flags Done) z) (sym made) (record {
        next = after_update here m key x;
        allowed = ((a.0.0, (u.0, u.1, u.2, u.3, (u.4.0, (q, may_lie m u.0 q u.4.1.1, refl)))), (h, i, a.1.2, lowest_here m i h a.1.3, spanned));
        like = update_like m key x;
        values = inr (x, refl, refl, refl, refl);
      })

  refused : (c m flags : ℕ) (key bytes : List ℕ) (answer : MapAnswer) (t : Plain) → t ≡ p → PlainlyAllowed here c
      (Update m key bytes flags answer) here → Follows but here p c (Update m key bytes flags answer) t
  refused c m flags key bytes answer t e a =
      subst (λ (z : Plain). Follows but here p c (Update m key bytes flags answer) z) (sym e)
      (record { next = here; allowed = a; like = like_here; values = inl (refl, refl, refl) })

  update_follows : (c m flags : ℕ) (key bytes : List ℕ) (answer : MapAnswer) (t : Plain) → PlainlyAllowed p c
      (Update m key bytes flags answer) t → Follows but here p c (Update m key bytes flags answer) t
  update_follows c m flags key bytes Done t a = update_done c m flags key bytes t a
  update_follows c m flags key bytes Busy t a = absurd a.1
  update_follows c m flags key bytes NoMemory t a =
      let u = a.0.1 in
      refused c m flags key bytes NoMemory t u.4.1 ((a.0.0, (u.0, u.1, u.2, u.3, (u.4.0, refl))), (a.1.0, a.1.1, λ i less. taken_here m i a.1.0 (a.1.2 i less)))
  update_follows c m flags key bytes Invalid t a =
      let u = a.0.1 in refused c m flags key bytes Invalid t u.4.1 ((a.0.0, (u.0, u.1, u.2, u.3, (u.4.0, refl))), tt)
  update_follows c m flags key bytes Exists t a = let u = a.0.1 in refused c m flags key bytes Exists t u.4.1 ((a.0.0, (u.0, u.1, u.2, u.3, (u.4.0, refl))), tt)
  update_follows c m flags key bytes Absent t a = let u = a.0.1 in refused c m flags key bytes Absent t u.4.1 ((a.0.0, (u.0, u.1, u.2, u.3, (u.4.0, refl))), tt)
  update_follows c m flags key bytes Full t a = let u = a.0.1 in refused c m flags key bytes Full t u.4.1 ((a.0.0, (u.0, u.1, u.2, u.3, (u.4.0, refl))), tt)

  -- ---- deletions
  deletes : (c m : ℕ) (key : List ℕ) (answer : MapAnswer) (t : Plain) → PlainlyAllowed p c (Delete m key answer) t → Follows but here p c
      (Delete m key answer) t
  deletes c m key Done t a =
      subst (λ (z : Plain). Follows but here p c (Delete m key Done) z) (sym a.0.1.1.1) (record {
        next = after_delete here m key;
        allowed = ((a.0.0, (a.0.1.0, (a.0.1.1.0, refl))), tt);
        like = record {
          same = ap (λ (kept : ℕ → ℕ → Bool). record (after_delete here m key) { kept = kept }) (kept_here (get (p.maps m) key));
          spans = spans;
          fewer = fewer;
          others = others;
        };
        values = inl (refl, refl, refl);
      })
  deletes c m key Busy t a = absurd a.1
  deletes c m key Absent t a =
      subst (λ (z : Plain). Follows but here p c (Delete m key Absent) z) (sym a.0.1.1.1)
      (record { next = here; allowed = ((a.0.0, (a.0.1.0, (a.0.1.1.0, refl))), tt); like = like_here; values = inl (refl, refl, refl) })
  deletes c m key Invalid t a = absurd a.0.1.1
  deletes c m key Exists t a = absurd a.0.1.1
  deletes c m key Full t a = absurd a.0.1.1
  deletes c m key NoMemory t a = absurd a.0.1.1

  -- ---- all that isn't an access
  follow_here : (c : ℕ) (e : Event) (t : Plain) → (but c → ⊥) → is_access e ≡ false → PlainlyAllowed p c e t → Follows but here p c e t
  follow_here c Begin t ne it a = subst (Follows but here p c Begin) (sym a.0.2) (begins c (subst (PlainlyAllowed p c Begin) a.0.2 a))
  follow_here c End t ne it a = subst (Follows but here p c End) (sym a.0.1) (ends c (subst (PlainlyAllowed p c End) a.0.1 a))
  follow_here c (Lookup m key found) t ne it a =
      subst (Follows but here p c (Lookup m key found)) (sym a.0.1.2) (looks c m key found ne (subst (PlainlyAllowed p c (Lookup m key found)) a.0.1.2 a))
  follow_here c (Update m key bytes flags answer) t ne it a = update_follows c m flags key bytes answer t a
  follow_here c (Delete m key answer) t ne it a = deletes c m key answer t a
  follow_here c (Keys m ks) t ne it a =
      subst (Follows but here p c (Keys m ks)) (sym a.0.3) (record
      { next = here; allowed = ((a.0.0, a.0.1, a.0.2, refl), tt); like = like_here; values = inl (refl, refl, refl) })
  follow_here c (Load a size found) t ne it h = absurd cc
  follow_here c (Store a size x) t ne it h = absurd cc
  follow_here c (Atomic a size op operand expected found) t ne it h = absurd cc

pub follow : (but : ℕ → Type 0) (s p t : Plain) (c : ℕ) (e : Event) → (but c → ⊥) → is_access e ≡ false → IsLike but s p → PlainlyAllowed p
    c e t → Follows but s p c e t
follow but s p t c e ne it like a =
    subst (λ (z : Plain). Follows but z p c e t) (sym like.same) (follow_here but p s.value s.held like.spans like.fewer like.others c e t ne it a)

-- what other CPUs hold, an event leaves
pub held_others : (s t : Plain) (c d : ℕ) (e : Event) → d ≢ c → PlainlyAllowed s c e t → t.held d ≡ s.held d
held_others s t c d Begin ne a = ap (λ (z : Plain). z.held d) a.0.2 ∙ put-other s.held c d never ne
held_others s t c d End ne a = ap (λ (z : Plain). z.held d) a.0.1 ∙ put-other s.held c d never ne
held_others s t c d (Lookup m key found) ne a = ap (λ (z : Plain). z.held d) a.0.1.2 ∙ looked (get (s.maps m) key)
  where
    looked : (o : Option ℕ) → (after_lookup s c o).held d ≡ s.held d
    looked None = refl
    looked (Some v) = put-other s.held c d (put (s.held c) v true) ne
held_others s t c d (Update m key bytes flags answer) ne a = updated answer a.0.1.4
  where
    updated : (answer : MapAnswer) → Updates s m a.0.1.0 key bytes flags answer t → t.held d ≡ s.held d
    updated Done u = ap (λ (z : Plain). z.held d) u.1.2
    updated Invalid u = ap (λ (z : Plain). z.held d) u.1
    updated Busy u = ap (λ (z : Plain). z.held d) u.1
    updated Exists u = ap (λ (z : Plain). z.held d) u.1
    updated Absent u = ap (λ (z : Plain). z.held d) u.1
    updated Full u = ap (λ (z : Plain). z.held d) u.1
    updated NoMemory u = ap (λ (z : Plain). z.held d) u.1
held_others s t c d (Delete m key answer) ne a = deleted answer a.0.1.1
  where
    deleted : (answer : MapAnswer) → Deletes s m key answer t → t.held d ≡ s.held d
    deleted Done u = ap (λ (z : Plain). z.held d) u.1
    deleted Busy u = ap (λ (z : Plain). z.held d) u
    deleted Absent u = ap (λ (z : Plain). z.held d) u.1
    deleted Invalid u = absurd u
    deleted Exists u = absurd u
    deleted Full u = absurd u
    deleted NoMemory u = absurd u
held_others s t c d (Keys m ks) ne a = ap (λ (z : Plain). z.held d) a.0.3
held_others s t c d (Load a size found) ne h = ap (λ (z : Plain). z.held d) h.0.1.3
held_others s t c d (Store a size x) ne h = ap (λ (z : Plain). z.held d) h.0.1.2
held_others s t c d (Atomic a size op operand expected found) ne h = ap (λ (z : Plain). z.held d) h.0.1.3
