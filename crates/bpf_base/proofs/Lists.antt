-- Elements of lists, by their places; lists that are equal by parts.
use Rattle.std.proofs.Common.{◌≡◌, ◌≢◌, ℕ, zero, suc, ◌+◌, ◌<◌, List, [], ◌∷◌, ◌++◌, length, take, drop, Some, get_or, refl, sym, ap, ◌∙◌, arith}
use Rattle.std.specs.Prelude.{map, slice_get, slice_set}
use Rattle.std.proofs.lemmas.List.{ext_get_or}
use Rattle.std.proofs.lemmas.Option.{slice_get-get_or}
use Rattle.std.proofs.Math.Seq.{take-append_seam}

module _ {A : Type 0} where
  -- ---- elements of parts of a list
  pub slice_get-append : (xs ys : List A) (i j : ℕ) → j ≡ length xs + i → slice_get (xs ++ ys) j ≡ slice_get ys i
  slice_get-append [] ys i j e = ap (slice_get ys) (omega arith)
  slice_get-append (x ∷ xs) ys i zero e = absurd (omega arith)
  slice_get-append (x ∷ xs) ys i (suc j) e = slice_get-append xs ys i j (omega arith)

  pub slice_get-front : (xs ys : List A) (i : ℕ) → i < length xs → slice_get (xs ++ ys) i ≡ slice_get xs i
  slice_get-front [] ys i h = absurd (omega arith)
  slice_get-front (x ∷ xs) ys zero h = refl
  slice_get-front (x ∷ xs) ys (suc i) h = slice_get-front xs ys i (omega arith)

  pub slice_get-drop : (n : ℕ) (xs : List A) (i j : ℕ) → j ≡ n + i → slice_get (drop n xs) i ≡ slice_get xs j
  slice_get-drop zero xs i j e = ap (slice_get xs) (omega arith)
  slice_get-drop (suc n) [] i j e = refl
  slice_get-drop (suc n) (x ∷ xs) i zero e = absurd (omega arith)
  slice_get-drop (suc n) (x ∷ xs) i (suc j) e = slice_get-drop n xs i j (omega arith)

  pub slice_get-take : (n : ℕ) (xs : List A) (i : ℕ) → i < n → slice_get (take n xs) i ≡ slice_get xs i
  slice_get-take zero xs i h = absurd (omega arith)
  slice_get-take (suc n) [] i h = refl
  slice_get-take (suc n) (x ∷ xs) zero h = refl
  slice_get-take (suc n) (x ∷ xs) (suc i) h = slice_get-take n xs i (omega arith)

  -- a list of as many elements in the place of another
  pub filled : (n : ℕ) (xs ys : List A) → length xs ≡ n → take n (xs ++ drop (length xs) ys) ≡ xs
  filled n xs ys e = ap (λ (k : ℕ). take k (xs ++ drop (length xs) ys)) (sym e) ∙ take-append_seam xs (drop (length xs) ys)

  -- ---- one element replaced
  pub slice_get-set_same : (xs : List A) (i : ℕ) (x : A) → i < length xs → slice_get (slice_set xs i x) i ≡ Some x
  slice_get-set_same [] i x h = absurd (omega arith)
  slice_get-set_same (y ∷ ys) zero x h = refl
  slice_get-set_same (y ∷ ys) (suc i) x h = slice_get-set_same ys i x (omega arith)

  -- the same, where an element is known to be there
  pub slice_get-set_known : (xs : List A) (i : ℕ) (a x : A) → slice_get xs i ≡ Some x → slice_get (slice_set xs i a) i ≡ Some a
  slice_get-set_known [] i a x h = cc
  slice_get-set_known (y ∷ ys) zero a x h = refl
  slice_get-set_known (y ∷ ys) (suc i) a x h = slice_get-set_known ys i a x h

  pub slice_get-set_other : (xs : List A) (i j : ℕ) (a : A) → j ≢ i → slice_get (slice_set xs i a) j ≡ slice_get xs j
  slice_get-set_other [] i j a ne = refl
  slice_get-set_other (y ∷ ys) zero zero a ne = absurd (ne refl)
  slice_get-set_other (y ∷ ys) zero (suc j) a ne = refl
  slice_get-set_other (y ∷ ys) (suc i) zero a ne = refl
  slice_get-set_other (y ∷ ys) (suc i) (suc j) a ne = slice_get-set_other ys i j a (λ q. ne (ap suc q))

  pub set_twice : (xs : List A) (i : ℕ) (a b : A) → slice_set (slice_set xs i a) i b ≡ slice_set xs i b
  set_twice [] i a b = refl
  set_twice (y ∷ ys) zero a b = refl
  set_twice (y ∷ ys) (suc i) a b = ap (λ (l : List A). y ∷ l) (set_twice ys i a b)

  -- ---- equal lists
  none_last : (xs : List A) (x : A) → xs ++ x ∷ [] ≡ [] → ⊥
  none_last [] x e = cc
  none_last (y ∷ ys) x e = cc

  -- equal lists have the same last element, and the same before it
  pub same_last : (xs ys : List A) (x y : A) → xs ++ x ∷ [] ≡ ys ++ y ∷ [] → (xs ≡ ys) × (x ≡ y)
  same_last [] [] x y e = (refl, cc)
  same_last [] (b ∷ bs) x y e = let none : bs ++ y ∷ [] ≡ [] = cc in absurd (none_last bs y none)
  same_last (a ∷ xs) [] x y e = let none : xs ++ x ∷ [] ≡ [] = cc in absurd (none_last xs x none)
  same_last (a ∷ xs) (b ∷ bs) x y e =
      let first : a ≡ b = cc in
      let rest : xs ++ x ∷ [] ≡ bs ++ y ∷ [] = cc in
      let same = same_last xs bs x y rest in
      let front : xs ≡ bs = same.0 in
      (cc, same.1)

  -- equal lists have the same fronts of one length, and the same after them
  pub same_fronts : (xs ys rest more : List A) → length xs ≡ length ys → xs ++ rest ≡ ys ++ more → (xs ≡ ys) × (rest ≡ more)
  same_fronts [] [] rest more n e = (refl, e)
  same_fronts [] (y ∷ ys) rest more n e = absurd (omega arith)
  same_fronts (x ∷ xs) [] rest more n e = absurd (omega arith)
  same_fronts (x ∷ xs) (y ∷ ys) rest more n e =
      let first : x ≡ y = cc in
      let behind : xs ++ rest ≡ ys ++ more = cc in
      let same = same_fronts xs ys rest more (omega arith) behind in
      let fronts : xs ≡ ys = same.0 in
      (cc, same.1)

  -- lists of one length that have the same elements
  pub same_elements : (d : A) (xs ys : List A) → length xs ≡ length ys → ((k : ℕ) → k < length xs → slice_get xs k ≡ slice_get ys k) → xs ≡ ys
  same_elements d xs ys e each = ext_get_or d xs ys e (λ i h.
      let both : Some (get_or xs i d) ≡ Some (get_or ys i d) = sym (slice_get-get_or xs i d h) ∙ each i h ∙ slice_get-get_or ys i d (omega arith) in cc)

module _ {A B : Type 0} (f g : A → B) where
  map_same : (xs : List A) → ((k : ℕ) (x : A) → slice_get xs k ≡ Some x → g x ≡ f x) → map g xs ≡ map f xs
  map_same [] same = refl
  map_same (y ∷ ys) same = ap (λ (b : B). b ∷ map g ys) (same 0 y refl) ∙ ap (λ (l : List B). f y ∷ l) (map_same ys (λ k x h. same (suc k) x h))

  -- one element is replaced, and the new function differs from the old one nowhere else
  pub map-set_changed : (xs : List A) (i : ℕ) (a : A) → ((k : ℕ) (x : A) → k ≢ i → slice_get xs k ≡ Some x → g x ≡ f x) → map g
      (slice_set xs i a) ≡ slice_set (map f xs) i (g a)
  map-set_changed [] i a same = refl
  map-set_changed (y ∷ ys) zero a same = ap (λ (l : List B). g a ∷ l)
      (map_same ys (λ k x h. same (suc k) x (λ q. let no : suc k ≡ 0 = q in absurd (omega arith)) h))
  map-set_changed (y ∷ ys) (suc i) a same =
      ap (λ (b : B). b ∷ map g (slice_set ys i a)) (same 0 y (λ q. let no : 0 ≡ suc i = q in absurd (omega arith)) refl)
      ∙ ap (λ (l : List B). f y ∷ l) (map-set_changed ys i a (λ k x ne h. same (suc k) x (λ q. ne (let e : suc k ≡ suc i = q in omega arith)) h))
