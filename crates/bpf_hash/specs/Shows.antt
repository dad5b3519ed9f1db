-- What a `HashStore` says of each plain store that it shows.
use Rattle.std.specs.Prelude.{◌≡◌, ℕ, ◌+◌, ◌*◌, ◌<◌, List, Option, option_map}
use Rattle.std.specs.FinMap.{get}
use Rattle.bpf_shared.specs.Shape.{IsIn, first_value, map_area}
use Rattle.bpf_shared.specs.Store.{Plain, Finds}
use Rattle.bpf_shared.specs.Sound.{IsSoundStore}
use Rattle.bpf_hash.specs.HashStore.{Contents, StandsFor}
use Rattle.bpf_shared.specs.Listing.{Pair, IsListing, IsElementByteAt}

-- the pairs are those of the map
abbrev pub Lists : Contents → ℕ → List Pair → Type 0
Lists p m pairs = (s : Plain) → IsSoundStore s → StandsFor p s → IsListing s m pairs

-- each byte of a value that is in a map or kept lies below the areas of arrays
abbrev pub AreElementsLow : Plain → Type 0
AreElementsLow s = (a b : ℕ) → IsElementByteAt s a b → a < first_value + map_area * 16

-- the byte is at the address, in a value that is in a map or kept, and is the only one
abbrev pub IsOnlyElementByteAt : Plain → ℕ → ℕ → Type 0
IsOnlyElementByteAt s a b =
    IsElementByteAt s a b × ((other : ℕ) → IsElementByteAt s a other → other ≡ b)

abbrev pub ShowsByte : Contents → ℕ → ℕ → Type 0
ShowsByte p a b = (s : Plain) → IsSoundStore s → StandsFor p s → IsOnlyElementByteAt s a b

-- at the address no value has a byte that is in a map or kept
abbrev pub ShowsNoByte : Contents → ℕ → Type 0
ShowsNoByte p a =
    (s : Plain) → IsSoundStore s → StandsFor p s → (b : ℕ) → IsElementByteAt s a b → ⊥

-- the bytes of the value that the key leads to in the map, if it leads to one
abbrev pub value_of : Plain → ℕ → List ℕ → Option (List ℕ)
value_of s m key = option_map (λ v. (s.value v).bytes) (get (s.maps m) key)

-- these are they
abbrev pub ShowsValue : Contents → ℕ → List ℕ → Option (List ℕ) → Type 0
ShowsValue p m key value = (s : Plain) → IsSoundStore s → StandsFor p s → value_of s m key ≡ value

-- the key leads to a value that has a byte at the address
abbrev pub LeadsTo : Plain → ℕ → List ℕ → Type 0
LeadsTo s a key = (m : ℕ) × (v : ℕ) × Finds s m key v × IsIn a (s.value v).span

abbrev pub ShowsKey : Contents → ℕ → List ℕ → Type 0
ShowsKey p a key = (s : Plain) → IsSoundStore s → StandsFor p s → LeadsTo s a key

-- no key does
abbrev pub ShowsNoKey : Contents → ℕ → Type 0
ShowsNoKey p a =
    (s : Plain) → IsSoundStore s → StandsFor p s → (key : List ℕ) → LeadsTo s a key → ⊥
