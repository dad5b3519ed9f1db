-- A map has one listing.
use Rattle.std.proofs.Common.{◌≡◌, ℕ, zero, suc, ◌<◌, ◌≤◌, List, [], length, Some, inl, inr, refl, sym, ap, subst, ◌∙◌, arith}
use Rattle.std.specs.Ordering.{nat_cmp}
use Rattle.std.specs.declared.cmp.Ordering.TheVariants.{Less, Equal}
use Rattle.std.specs.Cmp.Lexicographic.{slice_cmp}
use Rattle.std.proofs.lemmas.Cmp.{nat_list_cmp_total, tied_itself}
use Rattle.std.proofs.lemmas.Bool.{cases_lt, cases_order}
use Rattle.std.proofs.lemmas.List.{ext_get_or}
use Rattle.bpf_shared.specs.Store.{Plain, Finds}
use Rattle.bpf_shared.specs.Listing.{Pair, pair_at, IsListing}

no_tie : (p q : List ℕ) → p ≡ q → slice_cmp nat_cmp p q ≡ Less → ⊥
no_tie p q e less =
    let tie : slice_cmp nat_cmp p p ≡ Equal = tied_itself nat_list_cmp_total p in
    let same : slice_cmp nat_cmp p p ≡ Less = ap (slice_cmp nat_cmp p) e ∙ less in
    cc

abbrev key : List Pair → ℕ → List ℕ
key pairs k = (pair_at pairs k).0

-- both listings have the same key there
abbrev Agrees : List Pair → List Pair → ℕ → Type 0
Agrees p q k = (k < length q) × (key p k ≡ key q k)

module _ (s : Plain) (m : ℕ) where
  -- where they agree on the keys before one, they agree on that
  next_agrees : (p q : List Pair) → IsListing s m p → IsListing s m q → (k : ℕ) → k < length p → ((j : ℕ) → j < k → Agrees p q j) → Agrees p q k
  next_agrees p q P Q k inside before =
      let found = P.each k inside in
      let there = Q.all (key p k) found.0 found.1 in
      elim (cases_order there.0 k) [
        | inl e ↦ (subst (λ (i : ℕ). i < length q) e there.1, sym there.2 ∙ ap (key q) e)
        | inr rest ↦ elim rest [
          | inl below ↦ absurd (no_tie (key p there.0) (key p k) ((before there.0 below).1 ∙ there.2) (P.sorted there.0 k below inside))
          | inr above ↦ absurd (too_high there above)
        ]
      ]
    where
      too_high : (there : (i : ℕ) × (i < length q) × (key q i ≡ key p k)) → k < there.0 → ⊥
      too_high there above =
          let k_in : k < length q = (let i_in = there.1 in omega arith) in
          let back = Q.each k k_in in
          let here = P.all (key q k) back.0 back.1 in
          let less : slice_cmp nat_cmp (key q k) (key q there.0) ≡ Less = Q.sorted k there.0 above there.1 in
          elim (cases_order here.0 k) [
            | inl e ↦ no_tie (key q k) (key q there.0) (sym here.2 ∙ ap (key p) e ∙ sym there.2) less
            | inr other ↦ elim other [
              | inl low ↦ no_tie (key q here.0) (key q k) (sym (before here.0 low).1 ∙ here.2) (Q.sorted here.0 k low k_in)
              | inr high ↦
                  let first : slice_cmp nat_cmp (key p k) (key q k) ≡ Less = ap (slice_cmp nat_cmp (key p k)) (sym here.2) ∙ P.sorted k here.0 high here.1 in
                  let second : slice_cmp nat_cmp (key q k) (key p k) ≡ Less = ap (slice_cmp nat_cmp (key q k)) (sym there.2) ∙ less in
                  no_tie (key p k) (key p k) refl (nat_list_cmp_total.trans (key p k) (key q k) (key p k) first second)
            ]
          ]

  agrees_below : (p q : List Pair) → IsListing s m p → IsListing s m q → (n k : ℕ) → k < n → k < length p → Agrees p q k
  agrees_below p q P Q zero k less inside = absurd (omega arith)
  agrees_below p q P Q (suc n) k less inside =
      next_agrees p q P Q k inside (λ j l. agrees_below p q P Q n j (omega arith) (omega arith))

  agrees : (p q : List Pair) → IsListing s m p → IsListing s m q → (k : ℕ) → k < length p → Agrees p q k
  agrees p q P Q k inside = agrees_below p q P Q (suc k) k (omega arith) inside

  no_longer : (p q : List Pair) → IsListing s m p → IsListing s m q → length p ≤ length q
  no_longer p q P Q = elim (cases_lt (length q) (length p)) [
    | inl longer ↦ let no = (agrees p q P Q (length q) longer).0 in absurd (omega arith)
    | inr fits ↦ fits
  ]

  same_pair : (p q : List Pair) → IsListing s m p → IsListing s m q → (k : ℕ) → k < length p → pair_at p k ≡ pair_at q k
  same_pair p q P Q k inside =
      let at = agrees p q P Q k inside in
      let a = P.each k inside in
      let b = Q.each k at.0 in
      let G : List ℕ → Type 0 = λ x. Finds s m x b.0 in
      let both : Some a.0 ≡ Some b.0 = sym a.1 ∙ subst G (sym at.1) b.1 in
      let value : a.0 ≡ b.0 = cc in
      let bytes = a.2 ∙ ap (λ (v : ℕ). (s.value v).bytes) value ∙ sym b.2 in
      ap (λ (x : List ℕ). (x, (pair_at p k).1)) at.1 ∙ ap (λ (y : List ℕ). (key q k, y)) bytes

  pub one_listing : (p q : List Pair) → IsListing s m p → IsListing s m q → p ≡ q
  one_listing p q P Q =
      let over = no_longer p q P Q in
      let under = no_longer q p Q P in
      ext_get_or ([], []) p q (omega arith) (same_pair p q P Q)
