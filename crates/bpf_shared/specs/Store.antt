-- The plain store: maps from keys to numbered values, arrays of fixed ones, and the runs of CPUs.
use Rattle.std.specs.Prelude.{◌≡◌, ℕ, ◌+◌, ◌*◌, ◌/◌, ◌%◌, ◌<◌, nat_lt, Bool, true, false, ◌&&◌, List, [], ◌++◌, length, replicate}
use Rattle.std.specs.Prelude.{slice_get, Option, Some, None, ◌⊎◌, ◌==◌, if◌then◌else◌}
use Rattle.std.specs.Ordering.{nat_cmp}
use Rattle.std.specs.Cmp.Lexicographic.{slice_cmp}
use Rattle.std.specs.FinMap.{FinMap, empty, get}
use Rattle.bpf_base.specs.Bytes.{part}
use Rattle.bpf_shared.specs.declared.events.Span.{Span}
use Rattle.bpf_shared.specs.declared.shapes.ArrayShape.{ArrayShape}
use Rattle.bpf_shared.specs.Shape.{Shape, IsArray, copies, array_stride, contents_of, fixed_span}

-- a finite map from keys, which are lists of bytes, to value numbers
abbrev pub KeyMap : Type 0
KeyMap = FinMap (slice_cmp nat_cmp) ℕ

-- a value: its bytes, and where it lies
pub record Value : Type 0 where
  pub bytes : List ℕ
  pub span : Span

pub record Plain : Type 0 where
  pub shape : Shape
  -- of each map, by its number
  pub maps : ℕ → KeyMap
  -- how many values were made; they have the numbers below it, and none is ever removed. Those of
  -- arrays are the first
  pub made : ℕ
  pub value : ℕ → Value
  -- the CPUs that are in a run
  pub running : ℕ → Bool
  -- by CPU, the values that its run looked up: it holds them
  pub held : ℕ → ℕ → Bool
  -- by CPU, the values that left their maps in the course of its run: they are kept until it ends
  pub kept : ℕ → ℕ → Bool

-- f with x at i
abbrev pub put : {A : Type 0} → (ℕ → A) → ℕ → A → ℕ → A
put f i x = λ j. if j == i then x else f j

-- of no value, or no CPU
abbrev pub never : ℕ → Bool
never v = false

-- ---- fixed values: those of arrays, which the store has from the first on

-- the array, the CPU and the index of the value of a number
abbrev pub array_of : ℕ → ℕ
array_of v = v / 0x10_0000

abbrev pub copy_of : ℕ → ℕ
copy_of v = v / 0x1_0000 % 16

abbrev pub index_of : ℕ → ℕ
index_of v = v % 0x1_0000

-- the number of such a value
abbrev pub fixed_number : ℕ → ℕ → ℕ → ℕ
fixed_number a k i = (a * 16 + k) * 0x1_0000 + i

-- how many numbers are set aside for them
abbrev pub fixed_count : Shape → ℕ
fixed_count h = length h.arrays * 0x10_0000

-- the value of this number is that of an index of an array, of a CPU that has values there
pub record IsFixed (h : Shape) (v : ℕ) : Type 0 where
  pub array : ArrayShape
  pub is : IsArray h.arrays (array_of v) array
  pub copy : copy_of v < copies h.cpus array
  pub index : index_of v < array.max

-- it may only be read
abbrev pub IsFrozen : Shape → ℕ → Type 0
IsFrozen h v = (g : ArrayShape) × IsArray h.arrays (array_of v) g × (g.frozen ≡ true)

-- n bytes from an offset on, of bytes that zeros follow
abbrev pub first_bytes : List ℕ → ℕ → ℕ → List ℕ
first_bytes bytes at n = part (bytes ++ replicate (at + n) 0) at n

-- of no bytes, and nowhere
abbrev pub no_value : Value
no_value = record { bytes = []; span = record { at = 0; size = 0 } }

abbrev pub value_in_array : Shape → ℕ → Option ArrayShape → Value
value_in_array h v None = no_value
value_in_array h v (Some g) =
    if nat_lt (copy_of v) (copies h.cpus g) && nat_lt (index_of v) g.max
    then record {
      bytes = first_bytes (contents_of h (array_of v)) (index_of v * array_stride g) g.value;
      span = fixed_span (array_of v) g (copy_of v) (index_of v);
    }
    else no_value

-- the value of this number at first: each CPU's values have the same bytes
abbrev pub fixed_value : Shape → ℕ → Value
fixed_value h v = value_in_array h v (slice_get h.arrays (array_of v))

-- the store as made: no keys, no values but those of arrays, no CPU in a run
abbrev pub as_made : Shape → Plain
as_made h = record {
  shape = h;
  maps = λ m. empty;
  made = fixed_count h;
  value = fixed_value h;
  running = never;
  held = λ c. never;
  kept = λ c. never;
}

-- the key leads to the value
abbrev pub Finds : Plain → ℕ → List ℕ → ℕ → Type 0
Finds s m key v = get (s.maps m) key ≡ Some v

-- some key of the map leads to the value
abbrev pub IsInMap : Plain → ℕ → ℕ → Type 0
IsInMap s m v = (key : List ℕ) × Finds s m key v

abbrev pub IsHeld : Plain → ℕ → Type 0
IsHeld s v = (c : ℕ) × (s.held c v ≡ true)

abbrev pub IsKept : Plain → ℕ → Type 0
IsKept s v = (c : ℕ) × (s.kept c v ≡ true)

-- in a map, held or fixed: no other value may lie where it does
abbrev pub IsLive : Plain → ℕ → Type 0
IsLive s v = ((m : ℕ) × IsInMap s m v) ⊎ (IsHeld s v ⊎ IsFixed s.shape v)
