-- The sizes of maps' values, so far as they are known.
use Rattle.std.specs.Prelude.{◌≡◌, ℕ, ◌⊎◌, List, slice_index}
use Rattle.bpf_shared.specs.declared.shapes.MapShape.{MapShape}
use Rattle.bpf_shared.specs.Shape.{IsMap}

-- a map's size is that of its values, or not known yet
abbrev pub AreSizesOf : List MapShape → List ℕ → Type 0
AreSizesOf maps sizes = (m : ℕ) → (slice_index sizes m ≡ 0)
    ⊎ ((h : MapShape) × IsMap maps m h × (slice_index sizes m ≡ h.value))
