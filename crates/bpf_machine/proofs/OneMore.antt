-- One item more.
use Rattle.std.proofs.Common.{◌≡◌, ◌∙◌, ℕ, ◌+◌, ◌-◌, ◌<◌, List, [], ◌∷◌, ◌++◌, inl, inr, length, sym, ap, subst, arith}
use Rattle.std.specs.Prelude.{slice_index_or}
use Rattle.std.proofs.lemmas.Bool.{cases_lt}
use Rattle.std.proofs.Math.ListN.{get_or-append}
use Rattle.std.proofs.lemmas.List.{get_or-append_right}

pub one_more : {A : Type 0} (P : ℕ → A → Type 0) (none : A) (xs : List A) (x : A) (n : ℕ) → length xs ≡ n →
    ((c : ℕ) → c < n → P c (slice_index_or xs c none)) → P n x
    → (c : ℕ) → c < n + 1 → P c (slice_index_or (xs ++ x ∷ []) c none)
one_more P none xs x n count before last c less = elim (cases_lt c n) [
  | inl below ↦ subst (P c) (sym (get_or-append xs (x ∷ []) none c (omega (arith, below, count)))) (before c below)
  | inr past ↦
      let here : c ≡ n = omega (arith, past, less) in
      let at : slice_index_or (xs ++ x ∷ []) c none ≡ x = get_or-append_right xs (x ∷ []) n c none count (omega arith) ∙ ap
      (λ (k : ℕ). slice_index_or (x ∷ []) k none) (let z : c - n ≡ 0 = omega (arith, here) in z) in
      subst (P c) (sym at) (subst (λ (k : ℕ). P k x) (sym here) last)
]
