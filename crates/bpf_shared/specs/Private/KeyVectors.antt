-- The vectors of a `KeyList`.
use Rattle.std.specs.Prelude.{◌≡◌, ℕ, ◌<◌, ◌≤◌, List, map, take, length, slice_index_or, Vec}
use Rattle.std.specs.declared.alloc.Global.{Global}
use Rattle.std.specs.declared.cmp.Ordering.{Ordering}
use Rattle.std.specs.Ordering.{nat_cmp}
use Rattle.std.specs.Cmp.Lexicographic.{slice_cmp}
use Rattle.bpf_shared.specs.declared.shapes.MapShape.{MapShape}

-- the keys in the first of these
abbrev pub listed_keys : List (Vec ℕ Global) → ℕ → List (List ℕ)
listed_keys vs n = map (λ (v : Vec ℕ Global). v.items) (take n vs)

-- there is a vector for each key that the map may have, and the first n are in use
pub record IsKeyList (h : MapShape) (vs : List (Vec ℕ Global)) (n : ℕ) : Type 0 where
  pub room : length vs ≡ h.max
  pub count : n ≤ h.max
  pub sizes : (i : ℕ) (d : Vec ℕ Global) → i < length vs
      → length (slice_index_or vs i d).items ≡ h.key

-- vectors in the order of their bytes
abbrev pub by_bytes : Vec ℕ Global → Vec ℕ Global → Ordering
by_bytes x y = slice_cmp nat_cmp x.items y.items
