-- What a `PlainStore` is to its callers, and its passages.
use Rattle.std.specs.Prelude.{◌≡◌, ℕ, ◌+◌, ◌*◌, ◌%◌, ◌<◌, nat_lt, Bool, true, false, List, [], ◌∷◌, length, slice_index, slice_index_or, slice_set}
use Rattle.bpf_base.specs.Bytes.{part}
use Rattle.bpf_shared.specs.declared.events.Span.{Span}
use Rattle.bpf_shared.specs.declared.events.Event.{Event}
use Rattle.bpf_shared.specs.declared.events.Entry.{Entry}
use Rattle.bpf_shared.specs.declared.events.MapAnswer.{MapAnswer}
use Rattle.bpf_shared.specs.declared.events.MapAnswer.TheVariants.{Busy, NoMemory}
use Rattle.bpf_shared.specs.declared.shapes.ArrayShape.{ArrayShape}
use Rattle.bpf_shared.specs.declared.shapes.MapShape.{MapShape}
use Rattle.bpf_shared.specs.Shape.{Shape, IsShape, IsMap, IsArray, IsWithin, copies, array_stride, copy_stride, contents_of}
use Rattle.bpf_shared.specs.Store.{Plain, as_made, IsFixed, array_of, copy_of, index_of}
use Rattle.bpf_shared.specs.Choice.{IsShort}
use Rattle.bpf_shared.specs.History.{PlainlyLegal, entry}
use Rattle.bpf_shared.specs.Sound.{IsSoundStore}
use Rattle.bpf_hash.specs.HashStore as hash

pub record Contents : Type 0 where
  -- what it was made with
  pub shape : Shape
  pub maps : hash.Contents
  -- by array, the bytes of its values, each at its offset from the first
  pub arrays : List (List ℕ)

abbrev pub shape_of : Contents → Shape
shape_of p = p.shape

abbrev pub shapes_of : Contents → List MapShape
shapes_of p = p.shape.maps

abbrev pub has_cpu : Contents → ℕ → Bool
has_cpu p = hash.has_cpu p.maps

abbrev pub is_running : Contents → ℕ → Bool
is_running p = hash.is_running p.maps

abbrev pub held_spans : Contents → ℕ → Span → Bool
held_spans p = hash.held_spans p.maps

-- ---- the bytes of arrays
abbrev pub bytes_of : Contents → ℕ → List ℕ
bytes_of p a = slice_index_or p.arrays a []

-- where the value of an index is among an array's bytes
abbrev pub offset_in : ArrayShape → ℕ → ℕ → ℕ
offset_in g k i = k * copy_stride g + i * array_stride g

abbrev pub value_in : List ℕ → ArrayShape → ℕ → ℕ → List ℕ
value_in bytes g k i = part bytes (offset_in g k i) g.value

-- the bytes of the fixed value of a number
abbrev pub fixed_bytes : Contents → ℕ → ArrayShape → List ℕ
fixed_bytes p v g = value_in (bytes_of p (array_of v)) g (copy_of v) (index_of v)

-- each of these copies begins with the first bytes, and has zeros after them
pub record IsFilled (stride : ℕ) (first : List ℕ) (count : ℕ) (bytes : List ℕ) : Type 0 where
  pub size : length bytes ≡ count * stride
  pub each : (k o : ℕ) → k < count → o < stride
      → slice_index bytes (k * stride + o) ≡ slice_index first o

-- the byte at an offset in an array at first: each CPU's values have the same bytes
abbrev pub first_at : Shape → ℕ → ArrayShape → ℕ → ℕ
first_at h a g x = slice_index (contents_of h a) (x % copy_stride g)

-- each byte that is in no value is as at first
abbrev pub IsPadded : ℕ → ArrayShape → (ℕ → ℕ) → List ℕ → Type 0
IsPadded cpus g first bytes =
    (x : ℕ) → x < length bytes → (IsWithin cpus g x 1 → ⊥) → slice_index bytes x ≡ first x

-- an array's bytes as they are at first
abbrev pub IsAsMade : ℕ → ArrayShape → List ℕ → List ℕ → Type 0
IsAsMade cpus g first bytes = IsFilled (copy_stride g) first (copies cpus g) bytes

pub record AreAsMade (h : Shape) (arrays : List (List ℕ)) : Type 0 where
  pub count : length arrays ≡ length h.arrays
  pub each : (a : ℕ) (g : ArrayShape) → IsArray h.arrays a g
      → IsAsMade h.cpus g (contents_of h a) (slice_index_or arrays a [])

-- ---- the plain stores that it stands for

-- its maps stand for the store's, and its bytes are those of fixed values
pub record StandsFor (p : Contents) (s : Plain) : Type 0 where
  pub shape : s.shape ≡ p.shape
  pub maps : hash.StandsFor p.maps s
  pub fixed : (v : ℕ) (f : IsFixed p.shape v) → (s.value v).bytes ≡ fixed_bytes p v f.array

-- from each plain store that the old value shows, as some legal history may have left it, the
-- events are allowed, with the choices of one thread, and lead to one that the new value shows
abbrev pub Passes : Contents → Contents → List Entry → Type 0
Passes old new log =
    (s : Plain) → IsSoundStore s → StandsFor old s
    → (t : Plain) × PlainlyLegal s log t × IsSoundStore t × StandsFor new t

-- one event of a CPU does
abbrev pub Makes : Contents → Contents → ℕ → Event → Type 0
Makes old new c e = Passes old new (entry c e ∷ [])

-- no update or deletion is answered Busy, and NoMemory only where the map is short
abbrev pub MayLack : Contents → Contents → ℕ → List ℕ → MapAnswer → Type 0
MayLack old new m key Busy = ⊥
MayLack old new m key NoMemory =
    (s : Plain) → IsSoundStore s → StandsFor old s
    → (h : MapShape) × IsMap s.shape.maps m h × IsShort s m h
MayLack old new m key answer = Unit {0}

-- the bytes of an array of a store of this shape
pub record IsArrayOf (h : Shape) (a : ℕ) (g : ArrayShape) (bytes : List ℕ) : Type 0 where
  pub size : length bytes ≡ copies h.cpus g * copy_stride g
  -- what may only be read is as it was made
  pub frozen : g.frozen ≡ true → IsAsMade h.cpus g (contents_of h a) bytes
  -- and so is what is between the values
  pub padded : IsPadded h.cpus g (first_at h a g) bytes

-- of all its arrays
pub record AreArrays (h : Shape) (arrays : List (List ℕ)) : Type 0 where
  pub count : length arrays ≡ length h.arrays
  pub each : (a : ℕ) (g : ArrayShape) → IsArray h.arrays a g
      → IsArrayOf h a g (slice_index_or arrays a [])

-- what each `PlainStore` keeps true
pub record IsStore (p : Contents) : Type 0 where
  pub shape : IsShape p.shape
  pub maps : hash.shapes_of p.maps ≡ p.shape.maps
  pub cpus : (c : ℕ) → has_cpu p c ≡ nat_lt c p.shape.cpus
  pub arrays : AreArrays p.shape p.arrays

-- a store that was made with this shape
pub record IsMade (h : Shape) (p : Contents) : Type 0 where
  pub shape : shape_of p ≡ h
  pub serves : (c : ℕ) → has_cpu p c ≡ nat_lt c h.cpus
  pub idle : (c : ℕ) → is_running p c ≡ false
  pub holds_nothing : (c : ℕ) (q : Span) → held_spans p c q ≡ false
  pub shows : StandsFor p (as_made h)

-- ---- what calls leave

-- the maps are others
abbrev pub with_maps : Contents → hash.Contents → Contents
with_maps p maps = record p { maps = maps }

-- an array's bytes are others
abbrev pub with_array : Contents → ℕ → List ℕ → Contents
with_array p a bytes = record p { arrays = slice_set p.arrays a bytes }
