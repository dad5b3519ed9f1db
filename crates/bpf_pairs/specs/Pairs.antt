-- The pairs that maps have at first (our own choice).
use Rattle.std.specs.Prelude.{◌≡◌, ℕ, ◌+◌, ◌≤◌, ◌==◌, ◌&&◌, ◌||◌, Bool, false, All, List, [], ◌∷◌, ◌++◌, if◌then◌else◌}
use Rattle.std.specs.Str.{bytes_eq}
use Rattle.bpf_shared.specs.declared.shapes.MapShape.{MapShape}
use Rattle.bpf_shared.specs.Shape.{IsMap, IsPairOf}
use Rattle.bpf_pairs.specs.declared.pairs.Pair.{Pair as Given}

-- a map by its number, a key and its value
pub record Pair : Type 0 where
  pub map : ℕ
  pub key : List ℕ
  pub value : List ℕ

-- what a value of the program shows
abbrev pub pair_of : Given → Pair
pair_of p = record { map = p.map; key = p.key.items; value = p.value.items }

-- how many of these pairs are the map's
abbrev pub pairs_in : ℕ → List Pair → ℕ
pairs_in m [] = 0
pairs_in m (p ∷ ps) = if p.map == m then pairs_in m ps + 1 else pairs_in m ps

-- one of them is the map's and has this key
abbrev pub has_key : ℕ → List ℕ → List Pair → Bool
has_key m key [] = false
has_key m key (p ∷ ps) = (p.map == m && bytes_eq p.key key) || has_key m key ps

-- after some pairs each of these has a key that its map doesn't have yet
abbrev pub AreNew : (before ps : List Pair) → Type 0
AreNew before [] = Unit {0}
AreNew before (p ∷ ps) =
    (has_key p.map p.key before ≡ false) × AreNew (before ++ p ∷ []) ps

-- maps can have these pairs at first: each key and value has its map's sizes, no key of a map is
-- there twice, and each map has room for its keys
pub record ArePairs (maps : List MapShape) (ps : List Pair) : Type 0 where
  pub sized : All (λ p. IsPairOf maps p.map p.key p.value) ps
  pub new : AreNew [] ps
  pub room : (m : ℕ) (h : MapShape) → IsMap maps m h → pairs_in m ps ≤ h.max
