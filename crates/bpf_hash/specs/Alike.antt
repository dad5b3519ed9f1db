-- Contents that differ only in what no call can see: in numbers of runs, and in what is left in
-- elements that are in no use.
use Rattle.std.specs.Prelude.{◌≡◌, ℕ, ◌<◌, List, length}
use Rattle.bpf_shared.specs.Store.{Plain}
use Rattle.bpf_hash.specs.Private.Rows.{key_of, bytes_of, IsLinked}
use Rattle.bpf_hash.specs.Private.Contents.{Contents, rows, element_count, shapes_of, has_cpu, is_running, holds, keeps, IsUsed, StandsFor}
use Rattle.bpf_hash.specs.Private.Saved.{IsSavedAs}
use Rattle.bpf_hash.specs.Private.Normal.{normal}

pub record LookAlike (p q : Contents) : Type 0 where
  pub cpus : length q.runs ≡ length p.runs
  pub maps : shapes_of q ≡ shapes_of p
  pub running : (c : ℕ) → is_running q c ≡ is_running p c
  pub linked : (m : ℕ) → (rows q m).linked ≡ (rows p m).linked
  pub keys : (m i : ℕ) → IsLinked (rows p m) i → key_of (rows q m) i ≡ key_of (rows p m) i
  pub bytes : (m i : ℕ) → i < element_count p m → IsUsed p m i
      → bytes_of (rows q m) i ≡ bytes_of (rows p m) i
  pub holds : (c m i : ℕ) → i < element_count p m → holds q c m i ≡ holds p c m i
  pub keeps : (c m i : ℕ) → i < element_count p m → keeps q c m i ≡ keeps p c m i

-- the same maps and CPUs
abbrev pub IsSameShape : Contents → Contents → Type 0
IsSameShape p q = ((c : ℕ) → has_cpu q c ≡ has_cpu p c) × (shapes_of q ≡ shapes_of p)

-- contents of one shape that are saved as the same bytes look alike
abbrev pub SavedAlikeLookAlike : Type 0
SavedAlikeLookAlike =
    (p q : Contents) (bytes : List ℕ) → IsSameShape p q → IsSavedAs p bytes → IsSavedAs q bytes
    → LookAlike p q

-- they stand for the same plain stores
abbrev pub AlikeStandAlike : Type 0
AlikeStandAlike = (p q : Contents) (s : Plain) → LookAlike p q → StandsFor p s → StandsFor q s

-- what is restored looks like what was saved
abbrev pub RestoredLooksAlike : Type 0
RestoredLooksAlike = (p : Contents) (bytes : List ℕ) → IsSavedAs p bytes → LookAlike p (normal p)
