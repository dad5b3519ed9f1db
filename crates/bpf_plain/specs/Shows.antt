-- What a `PlainStore` says of each plain store that it shows.
use Rattle.std.specs.Prelude.{◌≡◌, ℕ, nat_lt, ◌&&◌, List, Option, Some, None, slice_get, if◌then◌else◌}
use Rattle.bpf_shared.specs.declared.shapes.ArrayShape.{ArrayShape}
use Rattle.bpf_shared.specs.Shape.{copies}
use Rattle.bpf_shared.specs.Store.{Plain, fixed_number}
use Rattle.bpf_shared.specs.Sound.{IsSoundStore}
use Rattle.bpf_plain.specs.PlainStore.{Contents, StandsFor}
use Rattle.bpf_shared.specs.Listing.{Pair, IsListing, IsByteAt, IsOnlyByteAt}
-- the bytes of the value that a key of a map leads to, if it leads to one; whether a key leads to a
-- value with a byte at an address
pub use Rattle.bpf_hash.specs.Shows.{value_of, LeadsTo}

-- the pairs are those of the map
abbrev pub Lists : Contents → ℕ → List Pair → Type 0
Lists p m pairs = (s : Plain) → IsSoundStore s → StandsFor p s → IsListing s m pairs

-- the byte is the one at the address
abbrev pub ShowsByte : Contents → ℕ → ℕ → Type 0
ShowsByte p a b = (s : Plain) → IsSoundStore s → StandsFor p s → IsOnlyByteAt s a b

-- at the address no value has a byte that is in a map, kept or fixed
abbrev pub ShowsNoByte : Contents → ℕ → Type 0
ShowsNoByte p a = (s : Plain) → IsSoundStore s → StandsFor p s → (b : ℕ) → IsByteAt s a b → ⊥

-- the key leads to these bytes in the map, or to none
abbrev pub ShowsValue : Contents → ℕ → List ℕ → Option (List ℕ) → Type 0
ShowsValue p m key value = (s : Plain) → IsSoundStore s → StandsFor p s → value_of s m key ≡ value

-- the bytes of the value of an index of an array, of the k-th CPU if each has its own, if it is
-- there
abbrev pub indexed : Plain → ℕ → ℕ → ℕ → Option ArrayShape → Option (List ℕ)
indexed s a k i None = None
indexed s a k i (Some g) =
    if nat_lt k (copies s.shape.cpus g) && nat_lt i g.max
    then Some (s.value (fixed_number a k i)).bytes
    else None

abbrev pub fixed_of : Plain → ℕ → ℕ → ℕ → Option (List ℕ)
fixed_of s a k i = indexed s a k i (slice_get s.shape.arrays a)

-- these are they
abbrev pub ShowsFixed : Contents → ℕ → ℕ → ℕ → Option (List ℕ) → Type 0
ShowsFixed p a k i value =
    (s : Plain) → IsSoundStore s → StandsFor p s → fixed_of s a k i ≡ value

-- the key leads to a value that has a byte at the address
abbrev pub ShowsKey : Contents → ℕ → List ℕ → Type 0
ShowsKey p a key = (s : Plain) → IsSoundStore s → StandsFor p s → LeadsTo s a key

-- no key does
abbrev pub ShowsNoKey : Contents → ℕ → Type 0
ShowsNoKey p a =
    (s : Plain) → IsSoundStore s → StandsFor p s → (key : List ℕ) → LeadsTo s a key → ⊥
