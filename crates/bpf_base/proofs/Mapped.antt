-- A list whose first items are changed.
use Rattle.std.proofs.Common.{◌≡◌, ℕ, zero, suc, List, [], ◌∷◌, length, map, refl, ap}

-- f of the first n items, and the rest as they are
abbrev pub first_mapped : {A : Type 0} → (A → A) → ℕ → List A → List A
first_mapped f zero xs = xs
first_mapped f (suc n) [] = []
first_mapped f (suc n) (x ∷ xs) = f x ∷ first_mapped f n xs

pub first_mapped-length : {A : Type 0} (f : A → A) (xs : List A) → first_mapped f (length xs) xs ≡ map f xs
first_mapped-length f [] = refl
first_mapped-length f (x ∷ xs) = ap (λ l. f x ∷ l) (first_mapped-length f xs)
