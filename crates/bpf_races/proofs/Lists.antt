-- Lists, and what is appended to them.
use Rattle.std.proofs.Common.{◌≡◌, ◌∙◌, ℕ, Bool, true, false, zero, suc, ◌<◌, ◌⊎◌, List, [], ◌∷◌, ◌++◌, Option, Some, None, length, inl}
use Rattle.std.proofs.Common.{inr, refl, sym, ap, arith}
use Rattle.std.specs.Prelude.{is_some, not, slice_get}
use Rattle.bpf_races.specs.Touch.{IsAmong}

at_front : {A : Type 0} → (xs : List A) (y x : A) (i : ℕ) → slice_get xs i ≡ Some x → slice_get (xs ++ y ∷ []) i ≡ Some x
at_front [] y x i at = cc
at_front (z ∷ zs) y x zero at = at
at_front (z ∷ zs) y x (suc i) at = at_front zs y x i at

at_end : {A : Type 0} → (xs : List A) (y : A) → slice_get (xs ++ y ∷ []) (length xs) ≡ Some y
at_end [] y = refl
at_end (x ∷ xs) y = at_end xs y

-- what is there with one more
pub at_cases : {A : Type 0} → (xs : List A) (y x : A) (i : ℕ) → slice_get (xs ++ y ∷ []) i ≡ Some x → (slice_get xs i ≡ Some x) ⊎ ((i ≡ length xs) × (x ≡ y))
at_cases [] y x zero at = let same : y ≡ x = cc in inr (refl, sym same)
at_cases [] y x (suc i) at = cc
at_cases (z ∷ zs) y x zero at = inl at
at_cases (z ∷ zs) y x (suc i) at = elim (at_cases zs y x i at) [
  | inl there ↦ inl there
  | inr (last, same) ↦ inr (omega arith, same)
]

pub in_front : {A : Type 0} → (xs : List A) (y x : A) → IsAmong xs x → IsAmong (xs ++ y ∷ []) x
in_front xs y x (i, at) = (i, at_front xs y x i at)

pub in_last : {A : Type 0} → (xs : List A) (y : A) → IsAmong (xs ++ y ∷ []) y
in_last xs y = (length xs, at_end xs y)

pub in_cases : {A : Type 0} → (xs : List A) (y x : A) → IsAmong (xs ++ y ∷ []) x → IsAmong xs x ⊎ (x ≡ y)
in_cases xs y x (i, at) = elim (at_cases xs y x i at) [ inl there ↦ inl (i, there) | inr (last, same) ↦ inr same ]

-- what isn't there
pub is_absent : {A : Type 0} → (o : Option A) (absent : Bool) → is_some o ≡ not absent → absent ≡ true → o ≡ None
is_absent None absent e is = refl
is_absent (Some x) absent e is = let no : true ≡ false = e ∙ ap not is in cc

-- lists that agree at each place are one
pub same_lists : {A : Type 0} → (xs ys : List A) → ((k : ℕ) → k < length ys → slice_get xs k ≡ slice_get ys k) → slice_get xs (length ys) ≡ None → xs ≡ ys
same_lists [] [] each none = refl
same_lists [] (y ∷ ys) each none = let no = each 0 (omega arith) in cc
same_lists (x ∷ xs) [] each none = cc
same_lists (x ∷ xs) (y ∷ ys) each none =
    let heads : Some x ≡ Some y = each 0 (omega arith) in
    let head : x ≡ y = cc in
    let rest : xs ≡ ys = same_lists xs ys (λ k less. each (suc k) (omega arith)) none in
    cc
