-- The sizes of a store, and the addresses of its values.
use Rattle.std.specs.Prelude.{◌≡◌, ℕ, ◌+◌, ◌*◌, ◌/◌, ◌<◌, ◌≤◌, List, [], length, slice_get, slice_index_or, Some, if◌then◌else◌}
use Rattle.bpf_shared.specs.declared.shapes.ArrayShape.{ArrayShape}
use Rattle.bpf_shared.specs.declared.shapes.MapShape.{MapShape}
use Rattle.bpf_shared.specs.declared.events.Span.{Span}

-- how many CPUs there are, the maps and the arrays, each by their numbers, and by array the bytes
-- that it has at first, from its first value on; zeros follow them
pub record Shape : Type 0 where
  pub cpus : ℕ
  pub maps : List MapShape
  pub arrays : List ArrayShape
  pub contents : List (List ℕ)

-- the sizes that a map may have (our own choice)
pub record IsMapShape (h : MapShape) : Type 0 where
  pub key : (1 ≤ h.key) × (h.key ≤ 64)
  pub value : (1 ≤ h.value) × (h.value ≤ 256)
  pub max : (1 ≤ h.max) × (h.max ≤ 65536)
  pub spare : h.spare ≤ 65536

-- the map of this number has this shape
abbrev pub IsMap : List MapShape → ℕ → MapShape → Type 0
IsMap maps m h = slice_get maps m ≡ Some h

-- ---- arrays, whose values are there from the first on

-- the array of this number has this shape
abbrev pub IsArray : List ArrayShape → ℕ → ArrayShape → Type 0
IsArray arrays a g = slice_get arrays a ≡ Some g

-- how often its values are there: once for each CPU, or once for all
abbrev pub copies : ℕ → ArrayShape → ℕ
copies cpus g = if g.per_cpu then cpus else 1

-- from one value to the next: a value's size, rounded up to a multiple of eight
abbrev pub array_stride : ArrayShape → ℕ
array_stride g = (g.value + 7) / 8 * 8

-- the bytes of the values of one CPU, or of all
abbrev pub copy_size : ArrayShape → ℕ
copy_size g = array_stride g * g.max

-- from the first value of one CPU to that of the next, rounded up so that no two CPUs' values are
-- in one line of 64 bytes
abbrev pub copy_stride : ArrayShape → ℕ
copy_stride g = (copy_size g + 63) / 64 * 64

-- the sizes that an array may have, where there are this many CPUs (our own choice)
pub record IsArrayShape (cpus : ℕ) (g : ArrayShape) : Type 0 where
  pub value : (1 ≤ g.value) × (g.value ≤ 65536)
  pub max : (1 ≤ g.max) × (g.max ≤ 65536)
  pub whole : copy_size g * copies cpus g ≤ 0x100_0000

-- the bytes that an array has at first
abbrev pub contents_of : Shape → ℕ → List ℕ
contents_of s a = slice_index_or s.contents a []

-- the sizes that a store may have (our own choice)
pub record IsShape (s : Shape) : Type 0 where
  pub cpus : (1 ≤ s.cpus) × (s.cpus ≤ 16)
  pub count : length s.maps ≤ 16
  pub each : (m : ℕ) (h : MapShape) → IsMap s.maps m h → IsMapShape h
  pub array_count : length s.arrays ≤ 16
  pub arrays : (a : ℕ) (g : ArrayShape) → IsArray s.arrays a g
      → IsArrayShape s.cpus g × (length (contents_of s a) ≤ copy_size g)

-- the map is there, and the key has its size
abbrev pub IsKeyOf : List MapShape → ℕ → List ℕ → Type 0
IsKeyOf maps m key = (h : MapShape) × IsMap maps m h × (length key ≡ h.key)

-- the map is there, and the key and the value have its sizes
abbrev pub IsPairOf : List MapShape → ℕ → List ℕ → List ℕ → Type 0
IsPairOf maps m key bytes =
    (h : MapShape) × IsMap maps m h × (length key ≡ h.key) × (length bytes ≡ h.value)

-- a map has room for its keys' values, and for some that have left it
abbrev pub elements : MapShape → ℕ
elements h = h.max + h.spare

-- from one element to the next: a value's size, rounded up to a multiple of eight
abbrev pub element_stride : MapShape → ℕ
element_stride h = (h.value + 7) / 8 * 8

-- where the first map's values begin (our own choice)
abbrev pub first_value : ℕ
first_value = 0x10_0000_0000

-- from a map's first value to that of the next map (our own choice)
abbrev pub map_area : ℕ
map_area = 0x1000_0000

-- where the value in the i-th element of the m-th map lies
abbrev pub element_span : ℕ → MapShape → ℕ → Span
element_span m h i = record {
  at = first_value + map_area * m + i * element_stride h;
  size = h.value;
}

-- where the value of the i-th index of the a-th array lies, of the k-th CPU if each has its own.
-- Arrays' areas follow those of sixteen maps
abbrev pub fixed_span : ℕ → ArrayShape → ℕ → ℕ → Span
fixed_span a g k i = record {
  at = first_value + map_area * (16 + a) + k * copy_stride g + i * array_stride g;
  size = g.value;
}

-- the span is that of an element of this map
abbrev pub IsElementSpan : List MapShape → ℕ → Span → Type 0
IsElementSpan maps m p = (h : MapShape) × (i : ℕ) × IsMap maps m h × (i < elements h)
    × (p ≡ element_span m h i)

-- at most 16 maps, each of a shape that a map may have
abbrev pub AreMaps : List MapShape → Type 0
AreMaps maps = (m : ℕ) (h : MapShape) → IsMap maps m h → (m < 16) × IsMapShape h

-- the span is that of an element of one of these maps
abbrev pub IsElement : List MapShape → Span → Type 0
IsElement maps p = (m : ℕ) × IsElementSpan maps m p

-- the span lies among the addresses of values, and is as long as a value may be
pub record IsValueSpan (p : Span) : Type 0 where
  pub from : first_value ≤ p.at
  pub to : p.at + p.size ≤ first_value + map_area * 16
  pub size : (1 ≤ p.size) × (p.size ≤ 256)

-- the address is in the span
abbrev pub IsIn : ℕ → Span → Type 0
IsIn a p = (p.at ≤ a) × (a < p.at + p.size)

-- no address is in both
abbrev pub IsApart : Span → Span → Type 0
IsApart p q = (a : ℕ) → IsIn a p → IsIn a q → ⊥

-- the n bytes from the address a on are in the span
abbrev pub Covers : Span → ℕ → ℕ → Type 0
Covers p a n = (p.at ≤ a) × (a + n ≤ p.at + p.size)

-- the n bytes from an offset on, counted from an array's first value, are in one of its values
pub record IsWithin (cpus : ℕ) (g : ArrayShape) (o n : ℕ) : Type 0 where
  pub copy : ℕ
  pub index : ℕ
  pub has_copy : copy < copies cpus g
  pub has_index : index < g.max
  pub from : copy * copy_stride g + index * array_stride g ≤ o
  pub to : o + n ≤ copy * copy_stride g + index * array_stride g + g.value

-- a store of maps alone
abbrev pub without_arrays : ℕ → List MapShape → Shape
without_arrays cpus maps = record { cpus = cpus; maps = maps; arrays = []; contents = [] }
