-- What is picked of a list by a test on another.
use Rattle.std.proofs.Common.{◌≡◌, ℕ, ◌+◌, ◌<◌, ◌≤◌, zero, suc, Bool, true, false, List, [], ◌∷◌, ◌++◌, refl, ap, sym, ◌∙◌, length, take}
use Rattle.std.proofs.Common.{drop, set, get_or, filter, cond, arith}
use Rattle.std.proofs.lemmas.List.{length-append, take-append-drop, take_more, take_more_set, length-take-le}
use Rattle.std.proofs.lemmas.List.Elements.{filter-append}
use Rattle.std.proofs.lemmas.List.Filters.{length-filter_more}
use Rattle.bpf_sched.specs.Explained.{picked}

module _ {A B : Type 0} (test : A → Bool) where
  -- a cons in either case
  cut : (b : Bool) (y : B) (us vs : List B) → cond b (y ∷ (us ++ vs)) (us ++ vs) ≡ cond b (y ∷ us) us ++ vs
  cut true y us vs = refl
  cut false y us vs = refl

  pub picked-append : (xs ws : List A) (ys zs : List B) → length xs ≡ length ys → picked test (xs ++ ws) (ys ++ zs) ≡ picked test xs ys ++ picked test ws zs
  picked-append [] ws [] zs same = refl
  picked-append [] ws (y ∷ ys) zs same = absurd (omega arith)
  picked-append (x ∷ xs) ws [] zs same = absurd (omega arith)
  picked-append (x ∷ xs) ws (y ∷ ys) zs same =
      ap (λ (l : List B). cond (test x) (y ∷ l) l) (picked-append xs ws ys zs (omega arith)) ∙ cut (test x) y (picked test xs ys) (picked test ws zs)

  lengths : (b : Bool) (x : A) (y : B) (us : List A) (vs : List B) → length vs ≡ length us → length (cond b (y ∷ vs) vs) ≡ length (cond b (x ∷ us) us)
  lengths true x y us vs same = omega arith
  lengths false x y us vs same = same

  pub length-picked : (xs : List A) (ys : List B) → length xs ≡ length ys → length (picked test xs ys) ≡ length (filter test xs)
  length-picked [] ys same = refl
  length-picked (x ∷ xs) [] same = absurd (omega arith)
  length-picked (x ∷ xs) (y ∷ ys) same = lengths (test x) x y (filter test xs) (picked test xs ys) (length-picked xs ys (omega arith))

  -- a change at a place that isn't picked changes nothing of what is
  pub picked-set : (xs : List A) (ys : List B) (i : ℕ) (y : B) (d : A) → i < length xs → length xs ≡ length ys → test (get_or xs i d) ≡
      false → picked test xs (set ys i y) ≡ picked test xs ys
  picked-set [] ys i y d inside same off = absurd (omega arith)
  picked-set (x ∷ xs) [] i y d inside same off = absurd (omega arith)
  picked-set (x ∷ xs) (z ∷ ys) zero y d inside same off =
      ap (λ b. cond b (y ∷ picked test xs ys) (picked test xs ys)) off ∙ sym (ap (λ b. cond b (z ∷ picked test xs ys) (picked test xs ys)) off)
  picked-set (x ∷ xs) (z ∷ ys) (suc i) y d inside same off =
      ap (λ (l : List B). cond (test x) (z ∷ l) l) (picked-set xs ys i y d (omega arith) (omega arith) off)

  -- of one place more, where what is there is set
  pub picked_more_set : (xs : List A) (ys : List B) (i : ℕ) (y : B) (d : A) → i < length xs → length xs ≡ length ys
      → picked test (take (i + 1) xs) (take (i + 1) (set ys i y)) ≡ picked test (take i xs) (take i ys) ++ cond (test (get_or xs i d)) (y ∷ []) []
  picked_more_set xs ys i y d inside same =
      ap (λ (l : List A). picked test l (take (i + 1) (set ys i y))) (take_more xs i d inside)
      ∙ ap (picked test (take i xs ++ get_or xs i d ∷ [])) (take_more_set ys i y (omega arith))
      ∙ picked-append (take i xs) (get_or xs i d ∷ []) (take i ys) (y ∷ [])
      (omega (arith, length-take-le i xs (omega arith), length-take-le i ys (omega arith)))

  pub picked_more : (xs : List A) (ys : List B) (i : ℕ) (e : B) (d : A) → i < length xs → length xs ≡ length ys
      → picked test (take (i + 1) xs) (take (i + 1) ys) ≡ picked test (take i xs) (take i ys) ++ cond (test (get_or xs i d)) (get_or ys i e ∷ []) []
  picked_more xs ys i e d inside same =
      ap (λ (l : List A). picked test l (take (i + 1) ys)) (take_more xs i d inside)
      ∙ ap (picked test (take i xs ++ get_or xs i d ∷ [])) (take_more ys i e (omega arith))
      ∙ picked-append (take i xs) (get_or xs i d ∷ []) (take i ys) (get_or ys i e ∷ [])
      (omega (arith, length-take-le i xs (omega arith), length-take-le i ys (omega arith)))

module _ {A : Type 0} (test : A → Bool) where
  few : (xs : List A) (n : ℕ) → length (filter test (take n xs)) ≤ length (filter test xs)
  few xs n = omega (
    arith,
    ap (λ (l : List A). length (filter test l)) (take-append-drop n xs),
    ap length (filter-append test (take n xs) (drop n xs)),
    length-append (filter test (take n xs)) (filter test (drop n xs)),
  )

  -- after the places before it one more passes
  pub one_left : (xs : List A) (i : ℕ) (d : A) → i < length xs → test (get_or xs i d) ≡ true → length (filter test (take i xs)) < length (filter test xs)
  one_left xs i d inside passes = omega (arith, few xs (i + 1), length-filter_more test xs i d inside, ap (λ b. cond {A = ℕ} b 1 0) passes)
