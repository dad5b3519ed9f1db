-- A map's elements, found by their keys.
use Rattle.std.specs.Prelude.{◌≡◌, ℕ, List, length}
use Rattle.bpf_shared.specs.Shape.{elements}
use Rattle.bpf_hash.specs.Private.Rows.{Rows, key_of, IsLinked}
use Rattle.bpf_hash.specs.Private.Chains.{Links, IsChainedAt}
use Rattle.bpf_hash.specs.Private.Home.{home_of}

-- where the element's key belongs
abbrev pub home_at : Rows → ℕ → ℕ
home_at t i = home_of t.shape.max (key_of t i)

-- the key belongs there
abbrev pub IsHome : Rows → List ℕ → ℕ → Type 0
IsHome t key b = b ≡ home_of t.shape.max key

-- an element that is in the map is in the chain of its key's home, and no other is in a chain
pub record IsIndexed (t : Rows) (x : Links) : Type 0 where
  pub homes : length x.heads ≡ t.shape.max
  pub elements : length x.nexts ≡ elements t.shape
  pub found : (i : ℕ) → IsLinked t i → IsChainedAt x (home_at t i) i
  pub linked : (b i : ℕ) → IsChainedAt x b i → IsLinked t i × (b ≡ home_at t i)
