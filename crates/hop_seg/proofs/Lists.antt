-- The overflow list: what its links lead to.
use Rattle.std.proofs.Common.{◌≡◌, ◌≢◌, ℕ, zero, suc, ◌<◌, ◌≤◌, Bool, true, false, List, [], ◌∷◌, Option, Some, None, inl, inr, length}
use Rattle.std.proofs.Common.{refl, ap, sym, ◌∙◌, subst, arith, eqb, ne_eqb, ◌||◌}
use Rattle.std.proofs.lemmas.Bool.{cases_eq}
use Rattle.std.proofs.lemmas.Map.Steps.{length-le_from_distinct_below}
use Rattle.std.specs.List.{IsDistinct, list_any, AllByRecursion}
use Rattle.hop_seg.specs.Segment.{Among, Chain, KeysDiffer}

-- links lead through one list
pub chain_unique : (next : ℕ → Option ℕ) (from : Option ℕ) (xs ys : List ℕ) → Chain next from xs → Chain next from ys → xs ≡ ys
chain_unique next from [] [] p q = refl
chain_unique next from [] (y ∷ ys) p q = let e : ◌≡◌ {A = Option ℕ} None (Some y) = sym p ∙ q.0 in cc
chain_unique next from (x ∷ xs) [] p q = let e : ◌≡◌ {A = Option ℕ} None (Some x) = sym q ∙ p.0 in cc
chain_unique next from (x ∷ xs) (y ∷ ys) p q =
    let e : ◌≡◌ {A = Option ℕ} (Some x) (Some y) = sym p.0 ∙ q.0 in
    let same : x ≡ y = cc in
    let rest : xs ≡ ys = chain_unique next (next x) xs ys p.1 (subst (λ (z : ℕ). Chain next (next z) ys) (sym same) q.1) in
    cc

-- the number of links up to the end, or up to this limit
unfoldable pub steps : ℕ → (ℕ → Option ℕ) → Option ℕ → ℕ
steps zero next from = 0
steps (suc n) next None = 0
steps (suc n) next (Some e) = suc (steps n next (next e))

pub steps-chain : (n : ℕ) (next : ℕ → Option ℕ) (from : Option ℕ) (xs : List ℕ) → Chain next from xs → length xs ≤ n → steps n next from ≡ length xs
unfolding steps
steps-chain zero next from [] p h = refl
steps-chain zero next from (x ∷ xs) p h = absurd (omega arith)
steps-chain (suc n) next from [] p h = ap (steps (suc n) next) p
steps-chain (suc n) next from (x ∷ xs) p h = ap (steps (suc n) next) p.0 ∙ ap (λ (k : ℕ). suc k) (steps-chain n next (next x) xs p.1 (omega arith))

pub steps-within : (n : ℕ) (next : ℕ → Option ℕ) (from : Option ℕ) → steps n next from ≤ n
unfolding steps
steps-within zero next from = omega arith
steps-within (suc n) next None = omega arith
steps-within (suc n) next (Some e) = let rest : steps n next (next e) ≤ n = steps-within n next (next e) in omega arith

-- elements with different keys differ, so a list of numbers below a limit is no longer than it
among_any : (x : ℕ) (xs : List ℕ) → list_any (eqb x) xs ≡ true → Among x xs
among_any x [] h = cc
among_any x (y ∷ ys) h = elim (cases_eq x y) [
  | inl e ↦ inl e
  | inr ne ↦ inr (among_any x ys (sym (ap (λ (b : Bool). b || list_any (eqb x) ys) (ne_eqb x y ne)) ∙ h))
]

all_others : (x : ℕ) (ys : List ℕ) → ((y : ℕ) → Among y ys → y ≢ x) → AllByRecursion (λ y. eqb x y ≡ false) ys
all_others x [] h = tt
all_others x (y ∷ ys) h = (ne_eqb x y (λ e. h y (inl refl) (sym e)), all_others x ys (λ z m. h z (inr m)))

distinct : (key : ℕ → List ℕ) (xs : List ℕ) → KeysDiffer key xs → IsDistinct eqb xs
unfolding IsDistinct
distinct key [] d = tt
distinct key (x ∷ xs) d = (all_others x xs (λ y m e. d.0 y m (ap key e)), distinct key xs d.1)

pub length-within : (key : ℕ → List ℕ) (xs : List ℕ) (n : ℕ) → KeysDiffer key xs → ((x : ℕ) → Among x xs → x < n) → length xs ≤ n
length-within key xs n d h = length-le_from_distinct_below xs n (distinct key xs d) (λ x m. h x (among_any x xs m))

-- elements of the list with one key are one
pub listed_unique : (key : ℕ → List ℕ) (xs : List ℕ) (x y : ℕ) → KeysDiffer key xs → Among x xs → Among y xs → key x ≡ key y → x ≡ y
listed_unique key [] x y d a b e = elim a [ ]
listed_unique key (z ∷ zs) x y d a b e = elim a [
  | inl p ↦ elim b [
    | inl q ↦ p ∙ sym q
    | inr q ↦ absurd (d.0 y q (sym e ∙ ap key p))
  ]
  | inr p ↦ elim b [
    | inl q ↦ absurd (d.0 x p (e ∙ ap key q))
    | inr q ↦ listed_unique key zs x y d.1 p q e
  ]
]
