-- Keys in the order of their bytes.
use Rattle.std.specs.Prelude.{ℕ, Bool, List, map}
use Rattle.bpf_shared.specs.declared.shapes.MapShape.{MapShape}
use Rattle.std.specs.List.{list_any, IsDistinct}
use Rattle.std.specs.Ordering.{nat_cmp, eq_by_cmp}
use Rattle.std.specs.Cmp.Lexicographic.{slice_cmp}
use Rattle.std.specs.FinMap.{from_entries, keys}

-- the list has the key
abbrev pub is_among : List ℕ → List (List ℕ) → Bool
is_among q = list_any (eq_by_cmp (slice_cmp nat_cmp) q)

-- a key with nothing under it
abbrev pub alone : List ℕ → List ℕ × ℕ
alone k = (k, 0)

-- the keys of a list, each once, in order
abbrev pub in_order : List (List ℕ) → List (List ℕ)
in_order ks = keys (from_entries {R = slice_cmp nat_cmp} (map alone ks))

-- no key occurs twice
abbrev pub AreDistinct : List (List ℕ) → Type 0
AreDistinct = IsDistinct (eq_by_cmp (slice_cmp nat_cmp))

-- the keys of a list, and the shape of the map that it was made for
pub record Listed : Type 0 where
  pub shape : MapShape
  pub keys : List (List ℕ)
