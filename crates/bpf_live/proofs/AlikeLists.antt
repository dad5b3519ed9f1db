-- Registers that hold the same where they were not written.
use Rattle.std.proofs.Common.{◌≡◌, ◌≢◌, ℕ, zero, suc, ◌≤◌, ◌⊎◌, inl, inr, List, [], ◌∷◌, length, refl, sym, subst, ◌∙◌, arith}
use Rattle.std.specs.Prelude.{slice_index, slice_set}
use Rattle.bpf_mem.specs.declared.frames.Caller.{Caller}
use Rattle.bpf_cpu.specs.State.{restored}
use Rattle.std.proofs.lemmas.List.{get_or-set_other, length-set}

pub same_long : (xs ys : List ℕ) (k l v w : ℕ) → length ys ≡ length xs → length (slice_set ys k v) ≡ length (slice_set xs l w)
same_long xs ys k l v w e = length-set ys k v ∙ e ∙ sym (length-set xs l w)

-- what both had, or what was put there
pub set_alike : (xs ys : List ℕ) (k v r : ℕ) → length ys ≡ length xs → (r ≢ k → slice_index ys r ≡ slice_index xs r) → slice_index
    (slice_set ys k v) r ≡ slice_index (slice_set xs k v) r
set_alike [] [] k v r e f = refl
set_alike [] (y ∷ ys) k v r e f = absurd (omega (arith, e))
set_alike (x ∷ xs) [] k v r e f = absurd (omega (arith, e))
set_alike (x ∷ xs) (y ∷ ys) zero v zero e f = refl
set_alike (x ∷ xs) (y ∷ ys) zero v (suc r) e f = f (λ (z : suc r ≡ zero). omega (arith, z))
set_alike (x ∷ xs) (y ∷ ys) (suc k) v zero e f = f (λ (z : zero ≡ suc k). omega (arith, z))
set_alike (x ∷ xs) (y ∷ ys) (suc k) v (suc r) e f = set_alike xs ys k v r (omega (arith, e)) (λ n. f (λ (z : suc r ≡ suc k). n (omega (arith, z))))

-- ---- a helper's registers
abbrev cleared : List ℕ → ℕ → List ℕ
cleared xs x = slice_set (slice_set (slice_set (slice_set (slice_set (slice_set xs 1 0) 2 0) 3 0) 4 0) 5 0) 0 x

pub helped_long : (xs ys : List ℕ) (x : ℕ) → length ys ≡ length xs → length (cleared ys x) ≡ length (cleared xs x)
helped_long xs ys x e =
    let e1 = same_long xs ys 1 1 0 0 e in
    let e2 = same_long (slice_set xs 1 0) (slice_set ys 1 0) 2 2 0 0 e1 in
    let e3 = same_long (slice_set (slice_set xs 1 0) 2 0) (slice_set (slice_set ys 1 0) 2 0) 3 3 0 0 e2 in
    let e4 = same_long (slice_set (slice_set (slice_set xs 1 0) 2 0) 3 0) (slice_set (slice_set (slice_set ys 1 0) 2 0) 3 0) 4 4 0 0 e3 in
    let e5 = same_long (slice_set (slice_set (slice_set (slice_set xs 1 0) 2 0) 3 0) 4 0)
    (slice_set (slice_set (slice_set (slice_set ys 1 0) 2 0) 3 0) 4 0) 5 5 0 0 e4 in
    same_long _ _ 0 0 x x e5

pub helped_alike : (xs ys : List ℕ) (x r : ℕ) → length ys ≡ length xs
    → (r ≢ 0 → r ≢ 5 → r ≢ 4 → r ≢ 3 → r ≢ 2 → r ≢ 1 → slice_index ys r ≡ slice_index xs r)
    → slice_index (cleared ys x) r ≡ slice_index (cleared xs x) r
helped_alike xs ys x r e f =
    let x1 = slice_set xs 1 0 in
    let y1 = slice_set ys 1 0 in
    let x2 = slice_set x1 2 0 in
    let y2 = slice_set y1 2 0 in
    let x3 = slice_set x2 3 0 in
    let y3 = slice_set y2 3 0 in
    let x4 = slice_set x3 4 0 in
    let y4 = slice_set y3 4 0 in
    let e1 : length y1 ≡ length x1 = same_long xs ys 1 1 0 0 e in
    let e2 : length y2 ≡ length x2 = same_long x1 y1 2 2 0 0 e1 in
    let e3 : length y3 ≡ length x3 = same_long x2 y2 3 3 0 0 e2 in
    let e4 : length y4 ≡ length x4 = same_long x3 y3 4 4 0 0 e3 in
    set_alike (slice_set x4 5 0) (slice_set y4 5 0) 0 x r (same_long x4 y4 5 5 0 0 e4)
    (λ n0. set_alike x4 y4 5 0 r e4
    (λ n5. set_alike x3 y3 4 0 r e3
    (λ n4. set_alike x2 y2 3 0 r e2
    (λ n3. set_alike x1 y1 2 0 r e1
    (λ n2. set_alike xs ys 1 0 r e
    (λ n1. f n0 n5 n4 n3 n2 n1))))))

-- all others stay
pub helped_kept : (ys : List ℕ) (x r : ℕ) → r ≢ 0 → r ≢ 5 → r ≢ 4 → r ≢ 3 → r ≢ 2 → r ≢ 1 → slice_index (cleared ys x) r ≡ slice_index ys r
helped_kept ys x r n0 n5 n4 n3 n2 n1 =
    let y1 = slice_set ys 1 0 in
    let y2 = slice_set y1 2 0 in
    let y3 = slice_set y2 3 0 in
    let y4 = slice_set y3 4 0 in
    get_or-set_other (slice_set y4 5 0) 0 r x 0 n0 ∙ get_or-set_other y4 5 r 0 0 n5 ∙ get_or-set_other y3 4 r 0 0 n4
    ∙ get_or-set_other y2 3 r 0 0 n3 ∙ get_or-set_other y1 2 r 0 0 n2 ∙ get_or-set_other ys 1 r 0 0 n1

-- ---- a caller's registers
module _ (caller : Caller) (top : ℕ) where
  abbrev back : List ℕ → List ℕ
  back xs = slice_set (slice_set (slice_set (slice_set xs 6 (slice_index caller.saved 0)) 7 (slice_index caller.saved 1)) 8
      (slice_index caller.saved 2)) 9 (slice_index caller.saved 3)

  back_long : (xs ys : List ℕ) → length ys ≡ length xs → length (back ys) ≡ length (back xs)
  back_long xs ys e =
      let e6 = same_long xs ys 6 6 (slice_index caller.saved 0) (slice_index caller.saved 0) e in
      let e7 = same_long _ _ 7 7 (slice_index caller.saved 1) (slice_index caller.saved 1) e6 in
      let e8 = same_long _ _ 8 8 (slice_index caller.saved 2) (slice_index caller.saved 2) e7 in
      same_long _ _ 9 9 (slice_index caller.saved 3) (slice_index caller.saved 3) e8

  pub restored_long : (xs ys : List ℕ) → length ys ≡ length xs → length (restored ys caller top) ≡ length (restored xs caller top)
  restored_long xs ys e = same_long (back xs) (back ys) 10 10 top top (back_long xs ys e)

  pub restored_alike : (xs ys : List ℕ) (r : ℕ) → length ys ≡ length xs
      → (r ≢ 6 → r ≢ 7 → r ≢ 8 → r ≢ 9 → r ≢ 10 → slice_index ys r ≡ slice_index xs r)
      → slice_index (restored ys caller top) r ≡ slice_index (restored xs caller top) r
  restored_alike xs ys r e f =
      let s6 = slice_index caller.saved 0 in
      let s7 = slice_index caller.saved 1 in
      let s8 = slice_index caller.saved 2 in
      let s9 = slice_index caller.saved 3 in
      let x6 = slice_set xs 6 s6 in
      let y6 = slice_set ys 6 s6 in
      let x7 = slice_set x6 7 s7 in
      let y7 = slice_set y6 7 s7 in
      let x8 = slice_set x7 8 s8 in
      let y8 = slice_set y7 8 s8 in
      let e6 : length y6 ≡ length x6 = same_long xs ys 6 6 s6 s6 e in
      let e7 : length y7 ≡ length x7 = same_long x6 y6 7 7 s7 s7 e6 in
      let e8 : length y8 ≡ length x8 = same_long x7 y7 8 8 s8 s8 e7 in
      set_alike (slice_set x8 9 s9) (slice_set y8 9 s9) 10 top r (same_long x8 y8 9 9 s9 s9 e8)
      (λ n10. set_alike x8 y8 9 s9 r e8
      (λ n9. set_alike x7 y7 8 s8 r e7
      (λ n8. set_alike x6 y6 7 s7 r e6
      (λ n7. set_alike xs ys 6 s6 r e
      (λ n6. f n6 n7 n8 n9 n10)))))

  pub restored_kept : (ys : List ℕ) (r : ℕ) → r ≢ 6 → r ≢ 7 → r ≢ 8 → r ≢ 9 → r ≢ 10 → slice_index (restored ys caller top) r ≡ slice_index ys r
  restored_kept ys r n6 n7 n8 n9 n10 =
      let s6 = slice_index caller.saved 0 in
      let s7 = slice_index caller.saved 1 in
      let s8 = slice_index caller.saved 2 in
      let s9 = slice_index caller.saved 3 in
      let y6 = slice_set ys 6 s6 in
      let y7 = slice_set y6 7 s7 in
      let y8 = slice_set y7 8 s8 in
      get_or-set_other (slice_set y8 9 s9) 10 r top 0 n10 ∙ get_or-set_other y8 9 r s9 0 n9 ∙ get_or-set_other y7 8 r s8 0 n8
      ∙ get_or-set_other y6 7 r s7 0 n7 ∙ get_or-set_other ys 6 r s6 0 n6

-- ---- which registers they are
six : (r : ℕ) → (r ≡ 0) ⊎ (r ≡ 1) ⊎ (r ≡ 2) ⊎ (r ≡ 3) ⊎ (r ≡ 4) ⊎ (r ≡ 5) ⊎ (6 ≤ r)
six zero = inl refl
six (suc zero) = inr (inl refl)
six (suc (suc zero)) = inr (inr (inl refl))
six (suc (suc (suc zero))) = inr (inr (inr (inl refl)))
six (suc (suc (suc (suc zero)))) = inr (inr (inr (inr (inl refl))))
six (suc (suc (suc (suc (suc zero))))) = inr (inr (inr (inr (inr (inl refl)))))
six (suc (suc (suc (suc (suc (suc r)))))) = inr (inr (inr (inr (inr (inr (omega arith))))))

-- each that a call doesn't keep and that isn't the top: R0 to R5, and what is past R10
module _ (P : ℕ → Type 0) (p0 : P 0) (p1 : P 1) (p2 : P 2) (p3 : P 3) (p4 : P 4) (p5 : P 5) (high : (r : ℕ) → 10 ≤ r → P r)
    (r : ℕ) (n6 : r ≢ 6) (n7 : r ≢ 7) (n8 : r ≢ 8) (n9 : r ≢ 9) where
  low_or_high : (r ≡ 0) ⊎ (r ≡ 1) ⊎ (r ≡ 2) ⊎ (r ≡ 3) ⊎ (r ≡ 4) ⊎ (r ≡ 5) ⊎ (6 ≤ r) → P r
  low_or_high (inl e) = subst P (sym e) p0
  low_or_high (inr (inl e)) = subst P (sym e) p1
  low_or_high (inr (inr (inl e))) = subst P (sym e) p2
  low_or_high (inr (inr (inr (inl e)))) = subst P (sym e) p3
  low_or_high (inr (inr (inr (inr (inl e))))) = subst P (sym e) p4
  low_or_high (inr (inr (inr (inr (inr (inl e)))))) = subst P (sym e) p5
  low_or_high (inr (inr (inr (inr (inr (inr more)))))) = high r (grind (arith, more, n6, n7, n8, n9))

  pub not_kept : P r
  not_kept = low_or_high (six r)
