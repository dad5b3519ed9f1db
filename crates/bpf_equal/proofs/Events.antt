-- What a store allows a CPU, the permuted store allows the one that it goes to.
use Rattle.std.proofs.Common.{◌≡◌, ℕ, Bool, true, false, List, Option, Some, None, ◌⊎◌, ◌==◌, if◌then◌else◌, inl, inr, refl, sym, ap}
use Rattle.std.proofs.Common.{◌∙◌, eq-eqb, ne_eqb}
use mathlib.Core.Path.{fun_ext}
use Rattle.std.specs.FinMap.{get}
use Rattle.bpf_shared.specs.declared.events.Span.{Span}
use Rattle.bpf_shared.specs.declared.events.MapAnswer.{MapAnswer}
use Rattle.bpf_shared.specs.declared.events.MapAnswer.TheVariants.{Done, Invalid, Busy, Exists, Absent, Full, NoMemory}
use Rattle.bpf_shared.specs.declared.events.Event.{Event}
use Rattle.bpf_shared.specs.declared.events.Event.TheVariants.{Begin, End, Lookup, Update, Delete, Keys, Load, Store, Atomic}
use Rattle.bpf_shared.specs.declared.shapes.MapShape.{MapShape}
use Rattle.bpf_shared.specs.Store.{Plain, Value, put, never, IsFixed, IsHeld, IsKept, IsLive}
use Rattle.bpf_shared.specs.Events.{Allowed, Does, Updates, Deletes, MayLie, Reaches, MayWrite, after_begin, after_end, after_lookup}
use Rattle.bpf_shared.specs.Events.{after_update, after_delete, kept_after}
use Rattle.bpf_shared.specs.Choice.{Chosen, IsLowestFree, IsShort, IsTaken}
use Rattle.bpf_shared.proofs.Puts.{equal_or_not}
use Rattle.bpf_equal.specs.Permutations.{Permutation, StaysBelow}
use Rattle.bpf_equal.specs.Stores.{store_permuted}
use Rattle.bpf_equal.specs.Laws.{EventsArePermuted}

module _ (cpus : Permutation) where
  abbrev P : Plain → Plain
  P = store_permuted cpus

  -- a number comes from c where it is the one that c goes to
  same_test : (c x : ℕ) → (cpus.from x == c) ≡ (x == cpus.to c)
  same_test c x = elim (equal_or_not x (cpus.to c)) [
    | inl e ↦ eq-eqb (cpus.from x) c (ap cpus.from e ∙ cpus.back c) ∙ sym (eq-eqb x (cpus.to c) e)
    | inr ne ↦ ne_eqb (cpus.from x) c (λ e. ne (sym (cpus.forth x) ∙ ap cpus.to e)) ∙ sym (ne_eqb x (cpus.to c) ne)
  ]

  pub put_permuted : {A : Type 0} (f : ℕ → A) (c : ℕ) (a : A) → (λ x. put f c a (cpus.from x)) ≡ put (λ x. f (cpus.from x)) (cpus.to c) a
  put_permuted f c a = fun_ext (λ x. ap (λ (b : Bool). if b then a else f (cpus.from x)) (same_test c x))

  -- what is true of the CPU is true of the one that it goes to
  pub at_goal : {A : Type 0} (f : ℕ → A) (c : ℕ) → f (cpus.from (cpus.to c)) ≡ f c
  at_goal f c = ap f (cpus.back c)

  abbrev with_flags : Plain → (ℕ → Bool) → (ℕ → ℕ → Bool) → (ℕ → ℕ → Bool) → Plain
  with_flags s running held kept = record s { running = running; held = held; kept = kept }

  begun : (s : Plain) (c : ℕ) → P (after_begin s c) ≡ after_begin (P s) (cpus.to c)
  begun s c =
      ap (λ (r : ℕ → Bool). with_flags s r (λ x. put s.held c never (cpus.from x)) (P s).kept) (put_permuted s.running c true)
      ∙ ap (λ (h : ℕ → ℕ → Bool). with_flags s (put (P s).running (cpus.to c) true) h (P s).kept) (put_permuted s.held c never)

  ended : (s : Plain) (c : ℕ) → P (after_end s c) ≡ after_end (P s) (cpus.to c)
  ended s c =
      ap (λ (r : ℕ → Bool). with_flags s r (λ x. put s.held c never (cpus.from x)) (λ x. put s.kept c never (cpus.from x))) (put_permuted s.running c false)
      ∙ ap (λ (h : ℕ → ℕ → Bool). with_flags s (put (P s).running (cpus.to c) false) h (λ x. put s.kept c never (cpus.from x)))
      (put_permuted s.held c never)
      ∙ ap (λ (k : ℕ → ℕ → Bool). with_flags s (put (P s).running (cpus.to c) false) (put (P s).held (cpus.to c) never) k)
      (put_permuted s.kept c never)

  looked_up : (s : Plain) (c : ℕ) (found : Option ℕ) → P (after_lookup s c found) ≡ after_lookup (P s) (cpus.to c) found
  looked_up s c None = refl
  looked_up s c (Some v) =
      let was : (P s).held (cpus.to c) ≡ s.held c = at_goal s.held c in
      ap (λ (h : ℕ → ℕ → Bool). with_flags s (P s).running h (P s).kept) (put_permuted s.held c (put (s.held c) v true))
      ∙ ap (λ (f : ℕ → Bool). with_flags s (P s).running (put (P s).held (cpus.to c) (put f v true)) (P s).kept) (sym was)

  -- ---- what is held and kept by some
  module _ (s : Plain) where
    held_there : (v : ℕ) → IsHeld s v → IsHeld (P s) v
    held_there v (c, e) = (cpus.to c, ap (λ (d : ℕ). s.held d v) (cpus.back c) ∙ e)

    held_here : (v : ℕ) → IsHeld (P s) v → IsHeld s v
    held_here v (c, e) = (cpus.from c, e)

    kept_there : (v : ℕ) → IsKept s v → IsKept (P s) v
    kept_there v (c, e) = (cpus.to c, ap (λ (d : ℕ). s.kept d v) (cpus.back c) ∙ e)

    kept_here : (v : ℕ) → IsKept (P s) v → IsKept s v
    kept_here v (c, e) = (cpus.from c, e)

    live_here : (v : ℕ) → IsLive (P s) v → IsLive s v
    live_here v (inl m) = inl m
    live_here v (inr (inl h)) = inr (inl (held_here v h))
    live_here v (inr (inr f)) = inr (inr f)

    lies : (m : ℕ) (h : MapShape) (p : Span) → MayLie s m h p → MayLie (P s) m h p
    lies m h p may = record { element = may.element; apart = λ v live. may.apart v (live_here v live) }

    taken_there : (m : ℕ) (h : MapShape) (i : ℕ) → IsTaken s m h i → IsTaken (P s) m h i
    taken_there m h i (v, inl k, e) = (v, inl k, e)
    taken_there m h i (v, inr k, e) = (v, inr (kept_there v k), e)

    taken_here : (m : ℕ) (h : MapShape) (i : ℕ) → IsTaken (P s) m h i → IsTaken s m h i
    taken_here m h i (v, inl k, e) = (v, inl k, e)
    taken_here m h i (v, inr k, e) = (v, inr (kept_here v k), e)

    short : (m : ℕ) (h : MapShape) → IsShort s m h → IsShort (P s) m h
    short m h all = λ i inside. taken_there m h i (all i inside)

    lowest_free : (m : ℕ) (h : MapShape) (i : ℕ) → IsLowestFree s m h i → IsLowestFree (P s) m h i
    lowest_free m h i low = record {
      inside = low.inside;
      free = λ taken. low.free (taken_here m h i taken);
      lowest = λ j below. taken_there m h j (low.lowest j below);
    }

    -- ---- accesses
    reached : (c v a n : ℕ) → Reaches s c v a n → Reaches (P s) (cpus.to c) v a n
    reached c v a n r = record { holds = holds r.holds; covers = r.covers }
      where
        holds : (s.held c v ≡ true) ⊎ IsFixed s.shape v → (s.held (cpus.from (cpus.to c)) v ≡ true) ⊎ IsFixed s.shape v
        holds (inl e) = inl (ap (λ (d : ℕ). s.held d v) (cpus.back c) ∙ e)
        holds (inr f) = inr f

    may_write : (c v a n : ℕ) → MayWrite s c v a n → MayWrite (P s) (cpus.to c) v a n
    may_write c v a n m = record { reaches = reached c v a n m.reaches; writable = m.writable }

  -- ---- updates and deletions: all that they ask of CPUs is who is in a run
  kept_too : (s : Plain) (o : Option ℕ) → (λ c. kept_after s o (cpus.from c)) ≡ kept_after (P s) o
  kept_too s None = refl
  kept_too s (Some v) = refl

  updated : (s : Plain) (m : ℕ) (key : List ℕ) (x : Value) → P (after_update s m key x) ≡ after_update (P s) m key x
  updated s m key x =
      let made : (ℕ → ℕ → Bool) → Plain = λ k. record (after_update (P s) m key x) { kept = k } in
      ap made (kept_too s (get (s.maps m) key))

  deleted : (s : Plain) (m : ℕ) (key : List ℕ) → P (after_delete s m key) ≡ after_delete (P s) m key
  deleted s m key =
      let made : (ℕ → ℕ → Bool) → Plain = λ k. record (after_delete (P s) m key) { kept = k } in
      ap made (kept_too s (get (s.maps m) key))

  updates : (s t : Plain) (m : ℕ) (h : MapShape) (key bytes : List ℕ) (flags : ℕ) (answer : MapAnswer) → Updates s m h key bytes flags answer t
      → Updates (P s) m h key bytes flags answer (P t)
  updates s t m h key bytes flags Done u =
      (u.0, (u.1.0, lies s m h u.1.0 u.1.1, ap P u.1.2 ∙ updated s m key (record { bytes = bytes; span = u.1.0 })))
  updates s t m h key bytes flags Invalid u = (u.0, ap P u.1)
  updates s t m h key bytes flags Busy u = (u.0, ap P u.1)
  updates s t m h key bytes flags Exists u = (u.0, ap P u.1)
  updates s t m h key bytes flags Absent u = (u.0, ap P u.1)
  updates s t m h key bytes flags Full u = (u.0, ap P u.1)
  updates s t m h key bytes flags NoMemory u = (u.0, ap P u.1)

  deletes : (s t : Plain) (m : ℕ) (key : List ℕ) (answer : MapAnswer) → Deletes s m key answer t → Deletes (P s) m key answer (P t)
  deletes s t m key Done u = (u.0, ap P u.1 ∙ deleted s m key)
  deletes s t m key Busy u = ap P u
  deletes s t m key Absent u = (u.0, ap P u.1)
  deletes s t m key Invalid u = absurd u
  deletes s t m key Exists u = absurd u
  deletes s t m key Full u = absurd u
  deletes s t m key NoMemory u = absurd u

  -- ---- any event
  runs : (s : Plain) (c : ℕ) (b : Bool) → s.running c ≡ b → (P s).running (cpus.to c) ≡ b
  runs s c b e = at_goal s.running c ∙ e

  does : (s t : Plain) (c : ℕ) (e : Event) → Does s c e t → Does (P s) (cpus.to c) e (P t)
  does s t c Begin d = absurd d
  does s t c End d = ap P d ∙ ended s c
  does s t c (Lookup m key found) d = (d.0, d.1, ap P d.2 ∙ looked_up s c (get (s.maps m) key))
  does s t c (Update m key bytes flags answer) d = (d.0, d.1, d.2, d.3, updates s t m d.0 key bytes flags answer d.4)
  does s t c (Delete m key answer) d = (d.0, deletes s t m key answer d.1)
  does s t c (Keys m ks) d = absurd d
  does s t c (Load a size found) d = (d.0, reached s c d.0 a _ d.1, d.2, ap P d.3)
  does s t c (Store a size x) d = (d.0, may_write s c d.0 a _ d.1, ap P d.2)
  does s t c (Atomic a size op operand expected found) d = (d.0, may_write s c d.0 a _ d.1, d.2, ap P d.3)

  allowed : (s t : Plain) (c : ℕ) (e : Event) → StaysBelow s.shape.cpus cpus → Allowed s c e t → Allowed (P s) (cpus.to c) e (P t)
  allowed s t c Begin stays a = ((stays c a.0).0, runs s c false a.1, ap P a.2 ∙ begun s c)
  allowed s t c (Keys m ks) stays a = ((stays c a.0).0, a.1, a.2, ap P a.3)
  allowed s t c End stays a = (runs s c true a.0, does s t c End a.1)
  allowed s t c (Lookup m key found) stays a = (runs s c true a.0, does s t c (Lookup m key found) a.1)
  allowed s t c (Update m key bytes flags answer) stays a = (runs s c true a.0, does s t c (Update m key bytes flags answer) a.1)
  allowed s t c (Delete m key answer) stays a = (runs s c true a.0, does s t c (Delete m key answer) a.1)
  allowed s t c (Load at size found) stays a = (runs s c true a.0, does s t c (Load at size found) a.1)
  allowed s t c (Store at size x) stays a = (runs s c true a.0, does s t c (Store at size x) a.1)
  allowed s t c (Atomic at size op operand expected found) stays a = (runs s c true a.0, does s t c (Atomic at size op operand expected found) a.1)

  chosen_update : (s t : Plain) (m : ℕ) (key bytes : List ℕ) (flags : ℕ) (answer : MapAnswer) → Chosen s (Update m key bytes flags answer) t
      → Chosen (P s) (Update m key bytes flags answer) (P t)
  chosen_update s t m key bytes flags Done k = (k.0, k.1, k.2, lowest_free s m k.0 k.1 k.3, k.4)
  chosen_update s t m key bytes flags NoMemory k = (k.0, k.1, short s m k.0 k.2)
  chosen_update s t m key bytes flags Busy k = absurd k
  chosen_update s t m key bytes flags Invalid k = tt
  chosen_update s t m key bytes flags Exists k = tt
  chosen_update s t m key bytes flags Absent k = tt
  chosen_update s t m key bytes flags Full k = tt

  chosen_delete : (s t : Plain) (m : ℕ) (key : List ℕ) (answer : MapAnswer) → Chosen s (Delete m key answer) t → Chosen (P s) (Delete m key answer) (P t)
  chosen_delete s t m key Done k = tt
  chosen_delete s t m key NoMemory k = tt
  chosen_delete s t m key Busy k = absurd k
  chosen_delete s t m key Invalid k = tt
  chosen_delete s t m key Exists k = tt
  chosen_delete s t m key Absent k = tt
  chosen_delete s t m key Full k = tt

  chosen : (s t : Plain) (e : Event) → Chosen s e t → Chosen (P s) e (P t)
  chosen s t Begin k = tt
  chosen s t End k = tt
  chosen s t (Lookup m key found) k = tt
  chosen s t (Update m key bytes flags answer) k = chosen_update s t m key bytes flags answer k
  chosen s t (Delete m key answer) k = chosen_delete s t m key answer k
  chosen s t (Keys m ks) k = tt
  chosen s t (Load at size found) k = tt
  chosen s t (Store at size x) k = tt
  chosen s t (Atomic at size op operand expected found) k = tt

pub events_are_permuted : EventsArePermuted
events_are_permuted cpus s t c e stays (a, k) = (allowed cpus s t c e stays a, chosen cpus s t e k)
