-- A text without its last byte, a line feed.
use Rattle.std.proofs.Common.{◌≡◌, ◌-◌, List, ℕ, [], ◌∷◌, ◌++◌, length, take, arith, sym, subst, slice_index}
use Rattle.std.specs.String.Boundary.{IsSplitPoint}
use Rattle.std.proofs.lemmas.List.{get_or_at, length_push, take_at}

last_place : (line : List ℕ) → length line ≡ length (line ++ 10 ∷ []) - 1
last_place line = omega (arith, length_push line 10)

split : (line : List ℕ) → IsSplitPoint (line ++ 10 ∷ []) (length (line ++ 10 ∷ []) - 1)
split line =
    let last : slice_index (line ++ 10 ∷ []) (length (line ++ 10 ∷ []) - 1) ≡ 10 = get_or_at line 10 [] 0 (length (line ++ 10 ∷ []) - 1) (last_place line) in
    (omega arith, λ some within high. omega (arith, last, high))

pub before_end : (bytes line : List ℕ) → bytes ≡ line ++ 10 ∷ [] → IsSplitPoint bytes (length bytes - 1)
before_end bytes line e = subst (λ (bs : List ℕ). IsSplitPoint bs (length bs - 1)) (sym e) (split line)

pub cut_end : (bytes line : List ℕ) → bytes ≡ line ++ 10 ∷ [] → take (length bytes - 1) bytes ≡ line
cut_end bytes line e = subst (λ (bs : List ℕ). take (length bs - 1) bs ≡ line) (sym e) (take_at line (10 ∷ []) (length (line ++ 10 ∷ []) - 1) (last_place line))
