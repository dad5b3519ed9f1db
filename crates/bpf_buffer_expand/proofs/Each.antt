-- Lists of things that are saved one after the other.
use Rattle.std.proofs.Common.{◌≡◌, ◌∙◌, ℕ, ◌<◌, List, [], ◌∷◌, ◌++◌, append_assoc, length, refl, sym, ap, arith}
use Rattle.std.specs.List.{flat_map, AllByRecursion}
use Rattle.std.proofs.lemmas.List.{append-nil}

-- one more is what a condition asks
pub each_push : {A : Type 0} (P : A → Type 0) (xs : List A) (x : A) → AllByRecursion P xs → P x → AllByRecursion P (xs ++ x ∷ [])
each_push P [] x all is = (is, tt)
each_push P (y ∷ ys) x all is = (all.0, each_push P ys x all.1 is)

module _ {A : Type 0} (saved : A → List ℕ) (Valid : A → Type 0)
    (told : (x y : A) (r s : List ℕ) → Valid x → Valid y → saved x ++ r ≡ saved y ++ s → (x ≡ y) × (r ≡ s)) where
  -- as many are the same, and so is what comes after them
  pub all_told : (xs ys : List A) (r s : List ℕ) → length xs ≡ length ys → AllByRecursion Valid xs → AllByRecursion Valid ys
      → flat_map saved xs ++ r ≡ flat_map saved ys ++ s → (xs ≡ ys) × (r ≡ s)
  all_told [] [] r s n v w e = (refl, e)
  all_told [] (y ∷ ys) r s n v w e = absurd (omega (arith, n))
  all_told (x ∷ xs) [] r s n v w e = absurd (omega (arith, n))
  all_told (x ∷ xs) (y ∷ ys) r s n v w e =
      let is = sym (append_assoc (saved x) (flat_map saved xs) r) ∙ (e ∙ append_assoc (saved y) (flat_map saved ys) s) in
      let one = told x y (flat_map saved xs ++ r) (flat_map saved ys ++ s) v.0 w.0 is in
      let rest = all_told xs ys r s (omega (arith, n)) v.1 w.1 one.1 in
      (ap (λ (z : A). z ∷ xs) one.0 ∙ ap (λ (zs : List A). y ∷ zs) rest.0, rest.1)

  -- after fewer comes the next of the others
  pub next_of : (xs ys : List A) (r s : List ℕ) → length xs < length ys → AllByRecursion Valid xs → AllByRecursion Valid ys
      → flat_map saved xs ++ r ≡ flat_map saved ys ++ s → (y : A) × (more : List ℕ) × Valid y × (r ≡ saved y ++ more)
  next_of [] [] r s n v w e = absurd (omega (arith, n))
  next_of [] (y ∷ ys) r s n v w e = (y, flat_map saved ys ++ s, w.0, e ∙ append_assoc (saved y) (flat_map saved ys) s)
  next_of (x ∷ xs) [] r s n v w e = absurd (omega (arith, n))
  next_of (x ∷ xs) (y ∷ ys) r s n v w e =
      let is = sym (append_assoc (saved x) (flat_map saved xs) r) ∙ (e ∙ append_assoc (saved y) (flat_map saved ys) s) in
      let one = told x y (flat_map saved xs ++ r) (flat_map saved ys ++ s) v.0 w.0 is in
      next_of xs ys r s (omega (arith, n)) v.1 w.1 one.1

  -- where none comes next, the bytes are no more of them
  pub none_next : (xs ys : List A) (bytes r s : List ℕ) → length xs < length ys → AllByRecursion Valid xs → AllByRecursion Valid ys
      → bytes ≡ flat_map saved xs ++ r → ((y : A) (more : List ℕ) → Valid y → r ≡ saved y ++ more → ⊥) → bytes ≡ flat_map saved ys ++ s → ⊥
  none_next xs ys bytes r s n v w read none is =
      let next = next_of xs ys r s n v w (sym read ∙ is) in
      none next.0 next.1 next.2 next.3

  -- one more is read
  pub one_more : (xs : List A) (x : A) (bytes r s : List ℕ) → bytes ≡ flat_map saved xs ++ r → r ≡ saved x ++ s → bytes ≡ flat_map saved (xs ++ x ∷ []) ++ s
  one_more xs x bytes r s read next = read ∙ (ap (λ (l : List ℕ). flat_map saved xs ++ l) next ∙ (sym (append_assoc (flat_map saved xs) (saved x) s)
      ∙ ap (λ (l : List ℕ). l ++ s) (flat_end xs x)))
    where
      flat_end : (zs : List A) (z : A) → flat_map saved zs ++ saved z ≡ flat_map saved (zs ++ z ∷ [])
      flat_end [] z = sym (append-nil (saved z))
      flat_end (y ∷ ys) z = append_assoc (saved y) (flat_map saved ys) (saved z) ∙ ap (λ (l : List ℕ). saved y ++ l) (flat_end ys z)
