-- Sights that took no lock.
use Rattle.std.proofs.Common.{◌≡◌, ℕ, List, [], ◌∷◌, ◌++◌}
use Rattle.hop_layout.specs.declared.place.Place.TheVariants.{FreeBits, Stamp}
use Rattle.hop_words.specs.declared.known.Sight.{Sight}
use Rattle.hop_words.specs.Sights.{IsLook, LeavesLocks, bit_cleared, bit_set}
use Rattle.hop_words.specs.Ghost.{Each}

pub each-append : (P : Sight → Type 0) (xs ys : List Sight) → Each P xs → Each P ys → Each P (xs ++ ys)
each-append P [] ys first rest = rest
each-append P (x ∷ xs) ys first rest = (first.0, each-append P xs ys first.1 rest)

-- looks took none
pub looks_leave : (xs : List Sight) → Each IsLook xs → Each LeavesLocks xs
looks_leave [] all = tt
looks_leave (x ∷ xs) all = ((λ m i _. all.0), looks_leave xs all.1)

-- an element's bit is no lock
no_stamp : (m i n k : ℕ) → FreeBits m i ≡ Stamp n k → ⊥
no_stamp m i n k e = cc

pub set_leaves : (m e n : ℕ) → LeavesLocks (bit_set m e n)
set_leaves m e n k i same = absurd (no_stamp m _ k i same)

pub cleared_leaves : (m e n : ℕ) → LeavesLocks (bit_cleared m e n)
cleared_leaves m e n k i same = absurd (no_stamp m _ k i same)
