-- What a `PlainStore` is saved as: bytes that determine all of it that a call can see.
use Rattle.std.specs.Prelude.{◌≡◌, ℕ, List, [], ◌++◌, length, slice_get, slice_index_or, Option, Some, None, if◌then◌else◌}
use Rattle.bpf_shared.specs.declared.shapes.ArrayShape.{ArrayShape}
use Rattle.bpf_shared.specs.Shape.{Shape}
use Rattle.bpf_hash.specs.HashStore as hash
use Rattle.bpf_hash.specs.Private.Saved as maps
use Rattle.bpf_plain.specs.Private.Changes.{changes}
use Rattle.bpf_plain.specs.Private.Contents.{Contents, IsStore, first_at}

-- what an array's bytes are saved as: what may only be read isn't saved, since it is as at first
abbrev pub saved_array : Shape → ℕ → Option ArrayShape → List ℕ → List ℕ
saved_array h a None bytes = []
saved_array h a (Some g) bytes = if g.frozen then [] else changes (first_at h a g) bytes

abbrev pub array_block : Shape → List (List ℕ) → ℕ → List ℕ
array_block h arrays a = saved_array h a (slice_get h.arrays a) (slice_index_or arrays a [])

-- all arrays' one after the other
abbrev pub saved_arrays : Shape → List (List ℕ) → List ℕ
saved_arrays h arrays = maps.all_below (array_block h arrays) (length h.arrays)

-- the arrays, and then the maps
abbrev pub saved : Contents → List ℕ
saved p = saved_arrays p.shape p.arrays ++ maps.saved p.maps

-- these bytes are what it is saved as
abbrev pub IsSavedAs : Contents → List ℕ → Type 0
IsSavedAs p bytes = IsStore p × (bytes ≡ saved p) × hash.IsSavedAs p.maps (maps.saved p.maps)
