-- What a `HashStore` reads from bytes, whoever wrote them.
use Rattle.std.specs.Prelude.{◌≡◌, ℕ, ◌≤◌, List, length, take}
use Rattle.bpf_hash.specs.HashStore.{Contents, IsSavedAs, normal}
use Rattle.bpf_hash.specs.Alike.{IsSameShape}

-- contents of the same shape are saved as the first n of the bytes
pub record IsSavedFirst (old : Contents) (bytes : List ℕ) (n : ℕ) (p : Contents) : Type 0 where
  pub shape : IsSameShape p old
  pub saved : IsSavedAs p (take n bytes)

-- these are saved as the first n of the bytes, and are the normal form of all that are saved as
-- some of the first
pub record IsRead (old : Contents) (bytes : List ℕ) (n : ℕ) (new : Contents) : Type 0 where
  pub inside : n ≤ length bytes
  pub saved : IsSavedFirst old bytes n new
  pub only : (k : ℕ) (p : Contents) → IsSavedFirst old bytes k p → new ≡ normal p
  pub ends : (k : ℕ) (p : Contents) → IsSavedFirst old bytes k p → take k bytes ≡ take n bytes

-- the bytes begin with none that contents of this shape are saved as
abbrev pub SavesNone : Contents → List ℕ → Type 0
SavesNone old bytes = (k : ℕ) (p : Contents) → IsSavedFirst old bytes k p → ⊥

-- bytes are read in one way
abbrev pub ReadingsAreDetermined : Type 0
ReadingsAreDetermined = (old new other : Contents) (bytes : List ℕ) (n k : ℕ)
    → IsRead old bytes n new → IsRead old bytes k other → (k ≡ n) × (other ≡ new)

-- what contents are restored to is saved as the same bytes
abbrev pub RestoredIsSavedAlike : Type 0
RestoredIsSavedAlike = (p : Contents) (bytes : List ℕ) → IsSavedAs p bytes
    → IsSavedAs (normal p) bytes
