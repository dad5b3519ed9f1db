-- Contents that differ only in what no call can see: their maps may, and arrays don't.
use Rattle.std.specs.Prelude.{◌≡◌, ℕ, List}
use Rattle.bpf_shared.specs.Store.{Plain}
use Rattle.bpf_hash.specs.Alike as hash
use Rattle.bpf_plain.specs.Private.Contents.{Contents, shape_of, has_cpu, StandsFor}
use Rattle.bpf_plain.specs.Private.Saved.{IsSavedAs}
use Rattle.bpf_plain.specs.Private.Normal.{normal}

pub record LookAlike (p q : Contents) : Type 0 where
  pub shape : shape_of q ≡ shape_of p
  pub maps : hash.LookAlike p.maps q.maps
  pub arrays : q.arrays ≡ p.arrays

-- the same CPUs, and the same maps and arrays
abbrev pub IsSameShape : Contents → Contents → Type 0
IsSameShape p q = ((c : ℕ) → has_cpu q c ≡ has_cpu p c) × (shape_of q ≡ shape_of p)

-- contents of one shape that are saved as the same bytes look alike
abbrev pub SavedAlikeLookAlike : Type 0
SavedAlikeLookAlike =
    (p q : Contents) (bytes : List ℕ) → IsSameShape p q → IsSavedAs p bytes → IsSavedAs q bytes
    → LookAlike p q

-- they stand for the same plain stores
abbrev pub AlikeStandAlike : Type 0
AlikeStandAlike = (p q : Contents) (s : Plain) → LookAlike p q → StandsFor p s → StandsFor q s

-- what is restored looks like what was saved
abbrev pub RestoredLooksAlike : Type 0
RestoredLooksAlike = (p : Contents) (bytes : List ℕ) → IsSavedAs p bytes → LookAlike p (normal p)
