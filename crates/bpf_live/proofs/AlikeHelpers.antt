-- A helper does the same where its arguments are the same.
use Rattle.std.proofs.Common.{◌≡◌, ℕ, List, [], ◌∷◌, inl, inr, refl, sym, subst, arith, Result}
use Rattle.std.specs.Prelude.{slice_index}
use Rattle.bpf_mem.specs.declared.memory.PrivateMemory.{PrivateMemory}
use Rattle.bpf_shared.specs.declared.events.Span.{Span}
use Rattle.bpf_shared.specs.declared.events.Event.{Event}
use Rattle.bpf_shared.specs.declared.shapes.MapShape.{MapShape}
use Rattle.bpf_shared.specs.declared.shapes.ArrayShape.{ArrayShape}
use Rattle.bpf_shared.specs.Shape.{Shape}
use Rattle.bpf_helpers.specs.declared.fault.HelperFault.{HelperFault}
use Rattle.bpf_helpers.specs.Calls.{CallsHelper, CallsMap, CallsArray, IsHelperNumber, lookup_number, update_number, delete_number, processor_number}
use Rattle.bpf_live.specs.Live.{Each}
use Rattle.bpf_live.specs.Registers.{arguments_of}

module _ (shape : Shape) (cpu : ℕ) (memory : PrivateMemory) (held : List Span) (events : List Event) (result : Result ℕ HelperFault) (after : List Span) where
  -- the helper of this number, on registers that hold these arguments
  abbrev On : ℕ → ℕ → ℕ → ℕ → ℕ → Type 0
  On n a b c d = CallsHelper shape n cpu (0 ∷ a ∷ b ∷ c ∷ d ∷ []) memory held events result after

  -- a lookup has two
  lookup_map : (a b c d e f m : ℕ) (h : MapShape)
      → CallsMap shape memory (0 ∷ a ∷ b ∷ c ∷ d ∷ []) held m h lookup_number events result after
      → CallsMap shape memory (0 ∷ a ∷ b ∷ e ∷ f ∷ []) held m h lookup_number events result after
  lookup_map a b c d e f m h (inl j) = inl j
  lookup_map a b c d e f m h (inr (inl j)) = absurd (let no = j.0 in omega (arith, no))
  lookup_map a b c d e f m h (inr (inr j)) = absurd (let no = j.0 in omega (arith, no))

  lookup_array : (a b c d e f m : ℕ) (g : ArrayShape)
      → CallsArray shape memory (0 ∷ a ∷ b ∷ c ∷ d ∷ []) held cpu m g lookup_number events result after
      → CallsArray shape memory (0 ∷ a ∷ b ∷ e ∷ f ∷ []) held cpu m g lookup_number events result after
  lookup_array a b c d e f m g (inl j) = inl j
  lookup_array a b c d e f m g (inr (inl j)) = absurd (let no = j.0 in omega (arith, no))
  lookup_array a b c d e f m g (inr (inr j)) = absurd (let no = j.0 in omega (arith, no))

  lookup : (a b c d e f : ℕ) → On lookup_number a b c d → On lookup_number a b e f
  lookup a b c d e f (inl j) = inl j
  lookup a b c d e f (inr (inl j)) = inr (inl j)
  lookup a b c d e f (inr (inr (inl j))) = inr (inr (inl (j.0, j.1, j.2, lookup_map a b c d e f j.0 j.1 j.3)))
  lookup a b c d e f (inr (inr (inr j))) = inr (inr (inr (j.0, j.1, j.2, j.3, lookup_array a b c d e f j.0 j.1 j.4)))

  -- so has a deletion
  delete_map : (a b c d e f m : ℕ) (h : MapShape)
      → CallsMap shape memory (0 ∷ a ∷ b ∷ c ∷ d ∷ []) held m h delete_number events result after
      → CallsMap shape memory (0 ∷ a ∷ b ∷ e ∷ f ∷ []) held m h delete_number events result after
  delete_map a b c d e f m h (inl j) = absurd (let no = j.0 in omega (arith, no))
  delete_map a b c d e f m h (inr (inl j)) = absurd (let no = j.0 in omega (arith, no))
  delete_map a b c d e f m h (inr (inr j)) = inr (inr j)

  delete_array : (a b c d e f m : ℕ) (g : ArrayShape)
      → CallsArray shape memory (0 ∷ a ∷ b ∷ c ∷ d ∷ []) held cpu m g delete_number events result after
      → CallsArray shape memory (0 ∷ a ∷ b ∷ e ∷ f ∷ []) held cpu m g delete_number events result after
  delete_array a b c d e f m g (inl j) = absurd (let no = j.0 in omega (arith, no))
  delete_array a b c d e f m g (inr (inl j)) = absurd (let no = j.0 in omega (arith, no))
  delete_array a b c d e f m g (inr (inr j)) = inr (inr j)

  delete : (a b c d e f : ℕ) → On delete_number a b c d → On delete_number a b e f
  delete a b c d e f (inl j) = inl j
  delete a b c d e f (inr (inl j)) = inr (inl j)
  delete a b c d e f (inr (inr (inl j))) = inr (inr (inl (j.0, j.1, j.2, delete_map a b c d e f j.0 j.1 j.3)))
  delete a b c d e f (inr (inr (inr j))) = inr (inr (inr (j.0, j.1, j.2, j.3, delete_array a b c d e f j.0 j.1 j.4)))

  -- the one for the CPU's number has none
  nothing_map : (a b c d m : ℕ) (h : MapShape) → CallsMap shape memory (0 ∷ a ∷ b ∷ c ∷ d ∷ []) held m h processor_number events result after → ⊥
  nothing_map a b c d m h (inl j) = let no = j.0 in omega (arith, no)
  nothing_map a b c d m h (inr (inl j)) = let no = j.0 in omega (arith, no)
  nothing_map a b c d m h (inr (inr j)) = let no = j.0 in omega (arith, no)

  nothing_array : (a b c d m : ℕ) (g : ArrayShape) → CallsArray shape memory (0 ∷ a ∷ b ∷ c ∷ d ∷ []) held cpu m g processor_number events result after → ⊥
  nothing_array a b c d m g (inl j) = let no = j.0 in omega (arith, no)
  nothing_array a b c d m g (inr (inl j)) = let no = j.0 in omega (arith, no)
  nothing_array a b c d m g (inr (inr j)) = let no = j.0 in omega (arith, no)

  processor : (a b c d e f g h : ℕ) → On processor_number a b c d → On processor_number e f g h
  processor a b c d e f g h (inl j) = inl j
  processor a b c d e f g h (inr (inl j)) = absurd (j.0 refl)
  processor a b c d e f g h (inr (inr (inl j))) = absurd (nothing_map a b c d j.0 j.1 j.3)
  processor a b c d e f g h (inr (inr (inr j))) = absurd (nothing_array a b c d j.0 j.1 j.4)

  -- so each of them does the same, where its arguments are the same
  module _ (xs ys : List ℕ) where
    abbrev Is : ℕ → Type 0
    Is r = slice_index ys r ≡ slice_index xs r

    abbrev Of : ℕ → List ℕ → Type 0
    Of n registers = CallsHelper shape n cpu registers memory held events result after

    two : (n : ℕ) → Is 1 → Is 2 → On n (slice_index xs 1) (slice_index xs 2) (slice_index ys 3) (slice_index ys 4) → Of n ys
    two n e1 e2 j =
        let P : ℕ → Type 0 = λ a. On n a (slice_index xs 2) (slice_index ys 3) (slice_index ys 4) in
        let Q : ℕ → Type 0 = λ b. On n (slice_index ys 1) b (slice_index ys 3) (slice_index ys 4) in
        subst Q (sym e2) (subst P (sym e1) j)

    four : (n : ℕ) → Is 1 → Is 2 → Is 3 → Is 4 → Of n xs → Of n ys
    four n e1 e2 e3 e4 j =
        let P : ℕ → Type 0 = λ c. On n (slice_index xs 1) (slice_index xs 2) c (slice_index xs 4) in
        let Q : ℕ → Type 0 = λ d. On n (slice_index xs 1) (slice_index xs 2) (slice_index ys 3) d in
        two n e1 e2 (subst Q (sym e4) (subst P (sym e3) j))

    pub calls_alike : (n : ℕ) → IsHelperNumber n → Each Is (arguments_of n) → Of n xs → Of n ys
    calls_alike n (inl e) arguments j =
        let same = subst (λ (m : ℕ). Each Is (arguments_of m)) e arguments in
        let of_it : Of lookup_number xs = subst (λ (m : ℕ). Of m xs) e j in
        subst (λ (m : ℕ). Of m ys) (sym e)
        (two lookup_number same.0 same.1.0 (lookup (slice_index xs 1) (slice_index xs 2) (slice_index xs 3) (slice_index xs 4)
        (slice_index ys 3) (slice_index ys 4) of_it))
    calls_alike n (inr (inl e)) arguments j =
        let same = subst (λ (m : ℕ). Each Is (arguments_of m)) e arguments in
        let of_it : Of update_number xs = subst (λ (m : ℕ). Of m xs) e j in
        subst (λ (m : ℕ). Of m ys) (sym e) (four update_number same.0 same.1.0 same.1.1.0 same.1.1.1.0 of_it)
    calls_alike n (inr (inr (inl e))) arguments j =
        let same = subst (λ (m : ℕ). Each Is (arguments_of m)) e arguments in
        let of_it : Of delete_number xs = subst (λ (m : ℕ). Of m xs) e j in
        subst (λ (m : ℕ). Of m ys) (sym e)
        (two delete_number same.0 same.1.0 (delete (slice_index xs 1) (slice_index xs 2) (slice_index xs 3) (slice_index xs 4)
        (slice_index ys 3) (slice_index ys 4) of_it))
    calls_alike n (inr (inr (inr e))) arguments j =
        let of_it : Of processor_number xs = subst (λ (m : ℕ). Of m xs) e j in
        subst (λ (m : ℕ). Of m ys) (sym e)
        (processor (slice_index xs 1) (slice_index xs 2) (slice_index xs 3) (slice_index xs 4) (slice_index ys 1) (slice_index ys 2)
        (slice_index ys 3) (slice_index ys 4) of_it)
