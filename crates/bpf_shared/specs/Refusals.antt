-- The refusals of a store's shape, in the order of their tests (our own choice).
use Rattle.std.specs.Prelude.{ℕ, ◌+◌, ◌*◌, nat_lt, Bool, ◌||◌, List, [], ◌∷◌, ◌++◌, length, slice_index_or}
use Rattle.bpf_shared.specs.declared.shapes.ArrayShape.{ArrayShape}
use Rattle.bpf_shared.specs.declared.shapes.MapShape.{MapShape}
use Rattle.bpf_shared.specs.declared.shapes.ShapeError.{ShapeError}
use Rattle.bpf_shared.specs.declared.shapes.ShapeError.TheVariants.{KeySize, ValueSize, KeyCount, SpareCount, TooManyMaps, CpuCount}
use Rattle.bpf_shared.specs.declared.shapes.ShapeError.TheVariants.{ArrayValueSize, ArrayCount, ArraySize, ArrayContents, TooManyArrays}
use Rattle.bpf_shared.specs.Shape.{copies, copy_size}

abbrev pub outside : ℕ → ℕ → ℕ → Bool
outside least most n = nat_lt n least || nat_lt most n

-- of the m-th map
abbrev pub map_tests : ℕ → MapShape → List (ShapeError × Bool)
map_tests m h =
    (KeySize m, outside 1 64 h.key)
    ∷ (ValueSize m, outside 1 256 h.value)
    ∷ (KeyCount m, outside 1 65536 h.max)
    ∷ (SpareCount m, nat_lt 65536 h.spare)
    ∷ []

-- of the maps from the m-th on, the lowest first
abbrev pub maps_tests : ℕ → List MapShape → List (ShapeError × Bool)
maps_tests m [] = []
maps_tests m (h ∷ hs) = map_tests m h ++ maps_tests (m + 1) hs

-- first of the CPUs, then of how many maps there are, then of each map
abbrev pub shape_tests : ℕ → List MapShape → List (ShapeError × Bool)
shape_tests cpus maps = (CpuCount, outside 1 16 cpus) ∷ (TooManyMaps, nat_lt 16 (length maps))
    ∷ maps_tests 0 maps

-- of the a-th array of a store for this many CPUs, which has this many bytes at first
abbrev pub array_tests : ℕ → ℕ → ℕ → ArrayShape → List (ShapeError × Bool)
array_tests cpus filled a g =
    (ArrayValueSize a, outside 1 65536 g.value)
    ∷ (ArrayCount a, outside 1 65536 g.max)
    ∷ (ArraySize a, nat_lt 0x100_0000 (copy_size g * copies cpus g))
    ∷ (ArrayContents a, nat_lt (copy_size g) filled)
    ∷ []

-- of the arrays from the a-th on, the lowest first
abbrev pub each_array_tests : ℕ → List (List ℕ) → ℕ → List ArrayShape → List (ShapeError × Bool)
each_array_tests cpus contents a [] = []
each_array_tests cpus contents a (g ∷ gs) =
    array_tests cpus (length (slice_index_or contents a [])) a g
    ++ each_array_tests cpus contents (a + 1) gs

-- first of how many arrays there are, then of each
abbrev pub arrays_tests : ℕ → List ArrayShape → List (List ℕ) → List (ShapeError × Bool)
arrays_tests cpus arrays contents = (TooManyArrays, nat_lt 16 (length arrays))
    ∷ each_array_tests cpus contents 0 arrays
