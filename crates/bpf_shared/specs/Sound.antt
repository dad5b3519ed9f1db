-- What is true of each store that a legal history leads to.
use Rattle.std.specs.Prelude.{◌≡◌, ℕ, ◌<◌, ◌≤◌, true, false, ◌≢◌, ◌⊎◌, length}
use Rattle.std.specs.FinMap.{len}
use Rattle.bpf_shared.specs.declared.shapes.MapShape.{MapShape}
use Rattle.bpf_shared.specs.Shape.{IsMap, IsShape, IsApart}
use Rattle.bpf_shared.specs.Store.{Plain, IsInMap, IsKept, IsLive, IsFixed, IsFrozen, fixed_count, fixed_value}

-- of fixed values
pub record AreFixed (s : Plain) : Type 0 where
  pub shape : IsShape s.shape
  -- they have the first numbers
  pub made : fixed_count s.shape ≤ s.made
  -- and those of values that are in a map or kept come after them
  pub in_map : (m v : ℕ) → IsInMap s m v → fixed_count s.shape ≤ v
  pub kept : (v : ℕ) → IsKept s v → fixed_count s.shape ≤ v
  -- each lies at its place
  pub spans : (v : ℕ) → IsFixed s.shape v → (s.value v).span ≡ (fixed_value s.shape v).span
  -- one that may only be read has its first bytes
  pub frozen : (v : ℕ) → IsFrozen s.shape v → s.value v ≡ fixed_value s.shape v

pub record IsSoundStore (s : Plain) : Type 0 where
  pub fixed : AreFixed s
  -- a held value is in a map, or kept for the CPU that holds it
  pub held : (c v : ℕ) → s.held c v ≡ true → ((m : ℕ) × IsInMap s m v) ⊎ (s.kept c v ≡ true)
  -- a CPU that is in no run holds nothing, and nothing is kept for it
  pub idle : (c : ℕ) → s.running c ≡ false → (v : ℕ) → (s.held c v ≡ false) × (s.kept c v ≡ false)
  -- no map has more keys than it may have
  pub keys : (m : ℕ) (h : MapShape) → IsMap s.shape.maps m h → len (s.maps m) ≤ h.max
  -- only values that were made are in a map, held or kept
  pub live_made : (v : ℕ) → IsLive s v → v < s.made
  pub kept_made : (v : ℕ) → IsKept s v → v < s.made
  -- a value has as many bytes as its span
  pub sizes : (v : ℕ) → v < s.made → length (s.value v).bytes ≡ (s.value v).span.size
  -- two live values have no address in common
  pub apart : (v w : ℕ) → IsLive s v → IsLive s w → v ≢ w
      → IsApart (s.value v).span (s.value w).span
