-- What a look at a store shows: a map's keys with their values, and the bytes of values.
use Rattle.std.specs.Prelude.{◌≡◌, ℕ, ◌<◌, ◌⊎◌, List, [], length, slice_index_or, map, Vec}
use Rattle.std.specs.declared.alloc.Global.{Global}
use Rattle.std.specs.Ordering.{nat_cmp}
use Rattle.std.specs.declared.cmp.Ordering.TheVariants.{Less}
use Rattle.std.specs.Cmp.Lexicographic.{slice_cmp}
use Rattle.bpf_shared.specs.Shape.{IsIn}
use Rattle.bpf_shared.specs.Store.{Plain, Finds, IsInMap, IsKept, IsFixed}
use Rattle.bpf_shared.specs.Laws.{byte_at}

-- a key, and the bytes of its value
abbrev pub Pair : Type 0
Pair = List ℕ × List ℕ

abbrev pub pair_at : List Pair → ℕ → Pair
pair_at pairs k = slice_index_or pairs k ([], [])

-- the map has these pairs and no others, in the order of their keys
pub record IsListing (s : Plain) (m : ℕ) (pairs : List Pair) : Type 0 where
  pub sorted : (j k : ℕ) → j < k → k < length pairs
      → slice_cmp nat_cmp (pair_at pairs j).0 (pair_at pairs k).0 ≡ Less
  pub each : (k : ℕ) → k < length pairs
      → (v : ℕ) × Finds s m (pair_at pairs k).0 v × ((pair_at pairs k).1 ≡ (s.value v).bytes)
  pub all : (key : List ℕ) (v : ℕ) → Finds s m key v
      → (k : ℕ) × (k < length pairs) × ((pair_at pairs k).0 ≡ key)

-- the byte at the address, in a value that is in a map or kept
abbrev pub IsElementByteAt : Plain → ℕ → ℕ → Type 0
IsElementByteAt s a b =
    (v : ℕ) × (((m : ℕ) × IsInMap s m v) ⊎ IsKept s v) × IsIn a (s.value v).span
    × (b ≡ byte_at s v a)

-- the byte at the address, in a fixed value
abbrev pub IsFixedByteAt : Plain → ℕ → ℕ → Type 0
IsFixedByteAt s a b =
    (v : ℕ) × IsFixed s.shape v × IsIn a (s.value v).span × (b ≡ byte_at s v a)

-- either
abbrev pub IsByteAt : Plain → ℕ → ℕ → Type 0
IsByteAt s a b = IsElementByteAt s a b ⊎ IsFixedByteAt s a b

-- it is the only one there: no two of these values have an address in common
abbrev pub IsOnlyByteAt : Plain → ℕ → ℕ → Type 0
IsOnlyByteAt s a b = IsByteAt s a b × ((other : ℕ) → IsByteAt s a other → other ≡ b)

-- a map has one listing
abbrev pub ListingsAreDetermined : Type 0
ListingsAreDetermined =
    (s : Plain) (m : ℕ) (pairs others : List Pair) → IsListing s m pairs → IsListing s m others
    → pairs ≡ others

-- what two vectors of a listing hold
abbrev pub pair_of : Vec ℕ Global × Vec ℕ Global → Pair
pair_of p = (p.0.items, p.1.items)

-- what vectors of a listing hold
abbrev pub listed : List (Vec ℕ Global × Vec ℕ Global) → List Pair
listed pairs = map pair_of pairs
