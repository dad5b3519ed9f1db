-- What the helpers do, a case a helper (bpf-helpers(7)). R1 to R4 have the arguments.
use Rattle.std.specs.Prelude.{◌≡◌, ◌≢◌, ℕ, ◌+◌, ◌-◌, ◌^◌, nat_lt, if◌then◌else◌, List, [], ◌∷◌, ◌++◌, length, ◌⊎◌, Option, Some, None}
use Rattle.std.specs.Prelude.{Result, Ok, Err, slice_get, slice_index}
use Rattle.bpf_mem.specs.declared.memory.PrivateMemory.{PrivateMemory}
use Rattle.bpf_mem.specs.Memory.{bytes_at}
use Rattle.bpf_shared.specs.declared.events.Span.{Span}
use Rattle.bpf_shared.specs.declared.events.MapAnswer.{MapAnswer}
use Rattle.bpf_shared.specs.declared.events.MapAnswer.TheVariants.{Done, Invalid, Busy, Exists, Absent, Full, NoMemory}
use Rattle.bpf_shared.specs.declared.events.Event.{Event}
use Rattle.bpf_shared.specs.declared.events.Event.TheVariants.{Lookup, Update, Delete}
use Rattle.bpf_shared.specs.declared.shapes.MapShape.{MapShape}
use Rattle.bpf_shared.specs.declared.shapes.ArrayShape.{ArrayShape}
use Rattle.bpf_shared.specs.Shape.{Shape, IsArray, fixed_span}
use Rattle.bpf_helpers.specs.declared.fault.HelperFault.{HelperFault}
use Rattle.bpf_helpers.specs.declared.fault.HelperFault.TheVariants.{BadAddress, Misaligned, NotAMap, TooManyHeld}
use Rattle.bpf_helpers.specs.Held.{IsTooMany, with_span}
use Rattle.bpf_helpers.specs.Arrays.{array_refusal, parts_of, copies}
use Rattle.bpf_helpers.specs.Reads.{IsReadable, Reads, IsOddKey, ReadsIndex, loads, no_loads}

-- the helpers' numbers: map_lookup_elem, map_update_elem, map_delete_elem, get_smp_processor_id
abbrev pub lookup_number : ℕ
lookup_number = 1

abbrev pub update_number : ℕ
update_number = 2

abbrev pub delete_number : ℕ
delete_number = 3

abbrev pub processor_number : ℕ
processor_number = 8

-- spin_lock, spin_unlock
abbrev pub lock_number : ℕ
lock_number = 93

abbrev pub unlock_number : ℕ
unlock_number = 94

abbrev pub IsHelperNumber : ℕ → Type 0
IsHelperNumber n =
    (n ≡ lookup_number) ⊎ (n ≡ update_number) ⊎ (n ≡ delete_number) ⊎ (n ≡ processor_number)

-- a map's number as a register holds it (our own choice)
abbrev pub map_value : ℕ → ℕ
map_value m = 0x1_0000_0000 + m

-- R1 is the map of this number, which has this shape
abbrev pub IsMapAt : List MapShape → List ℕ → ℕ → MapShape → Type 0
IsMapAt shapes registers m h =
    (slice_index registers 1 ≡ map_value m) × (slice_get shapes m ≡ Some h)

-- R1 is the array of this number, which has this shape; its number follows those of sixteen maps
abbrev pub IsArrayAt : List ArrayShape → List ℕ → ℕ → ArrayShape → Type 0
IsArrayAt arrays registers a g =
    (slice_index registers 1 ≡ map_value (16 + a)) × IsArray arrays a g

-- whose values a CPU uses: its own if each CPU has its own, else those of all
abbrev pub copy_for : ℕ → ArrayShape → ℕ
copy_for cpu g = if g.per_cpu then cpu else 0

-- errors are answered as 2^64 less their number (EINVAL 22, EBUSY 16, EEXIST 17, ENOENT 2, E2BIG 7,
-- ENOMEM 12)
abbrev pub answer_number : MapAnswer → ℕ
answer_number Done = 0
answer_number Invalid = 2 ^ 64 - 22
answer_number Busy = 2 ^ 64 - 16
answer_number Exists = 2 ^ 64 - 17
answer_number Absent = 2 ^ 64 - 2
answer_number Full = 2 ^ 64 - 7
answer_number NoMemory = 2 ^ 64 - 12

-- a fault, which asks the store nothing and leaves what is held
abbrev pub Stops : HelperFault → List Span → List Event → Result ℕ HelperFault → List Span → Type 0
Stops fault held events result after = (events ≡ []) × (result ≡ Err fault) × (after ≡ held)

-- a lookup's answer: the value's address or 0; the run holds the value from now on
abbrev pub TakesAnswer : Option Span → List Span → Result ℕ HelperFault → List Span → Type 0
TakesAnswer None held result after = (result ≡ Ok 0) × (after ≡ held)
TakesAnswer (Some p) held result after =
    (IsTooMany held p × (result ≡ Err TooManyHeld) × (after ≡ held))
    ⊎ ((¬ IsTooMany held p) × (result ≡ Ok p.at) × (after ≡ with_span held p))

-- the n bytes at one address are copied to another, part by part: a CPU's own as they are, bytes of
-- values by a load for each
abbrev pub Copies : PrivateMemory → ℕ → ℕ → ℕ → List Event → Type 0
Copies memory from to n events =
    ((value : List ℕ) × (bytes_at memory from n ≡ Some value)
    × (events ≡ copies no_loads from to (parts_of n) value))
    ⊎ ((value : List ℕ) × (bytes_at memory from n ≡ None) × (length value ≡ n)
    × (events ≡ copies loads from to (parts_of n) value))

module _ (shape : Shape) (memory : PrivateMemory) (registers : List ℕ) (held : List Span) where
  -- ---- of a hash map

  -- map_lookup_elem: the key's loads, then the lookup
  abbrev pub LooksUp : ℕ → MapShape → List Event → Result ℕ HelperFault → List Span → Type 0
  LooksUp m h events result after =
      ((¬ IsReadable shape memory held (slice_index registers 2) h.key)
      × Stops BadAddress held events result after)
      ⊎ ((key : List ℕ) × (first : List Event) × (answer : Option Span)
      × Reads shape memory held (slice_index registers 2) h.key key first
      × (events ≡ first ++ Lookup m key answer ∷ [])
      × TakesAnswer answer held result after)

  -- map_update_elem: the key's loads, the value's, then the update
  abbrev pub UpdatesMap : ℕ → MapShape → List Event → Result ℕ HelperFault → List Span → Type 0
  UpdatesMap m h events result after =
      (((¬ IsReadable shape memory held (slice_index registers 2) h.key)
      ⊎ (¬ IsReadable shape memory held (slice_index registers 3) h.value))
      × Stops BadAddress held events result after)
      ⊎ ((key : List ℕ) × (value : List ℕ) × (first : List Event) × (second : List Event)
      × (answer : MapAnswer)
      × Reads shape memory held (slice_index registers 2) h.key key first
      × Reads shape memory held (slice_index registers 3) h.value value second
      × (events ≡ (first ++ second) ++ Update m key value (slice_index registers 4) answer ∷ [])
      × (result ≡ Ok (answer_number answer)) × (after ≡ held))

  -- map_delete_elem: the key's loads, then the deletion
  abbrev pub DeletesKey : ℕ → MapShape → List Event → Result ℕ HelperFault → List Span → Type 0
  DeletesKey m h events result after =
      ((¬ IsReadable shape memory held (slice_index registers 2) h.key)
      × Stops BadAddress held events result after)
      ⊎ ((key : List ℕ) × (first : List Event) × (answer : MapAnswer)
      × Reads shape memory held (slice_index registers 2) h.key key first
      × (events ≡ first ++ Delete m key answer ∷ [])
      × (result ≡ Ok (answer_number answer)) × (after ≡ held))

  -- the map helpers, by their numbers
  abbrev pub CallsMap : ℕ → MapShape → ℕ → List Event → Result ℕ HelperFault → List Span → Type 0
  CallsMap m h n events result after =
      ((n ≡ lookup_number) × LooksUp m h events result after)
      ⊎ ((n ≡ update_number) × UpdatesMap m h events result after)
      ⊎ ((n ≡ delete_number) × DeletesKey m h events result after)

  -- ---- of an array, whose values are always there

  -- the address of a key is tested: its four bytes can't be read, or not at once
  abbrev pub StopsAtKey : List Event → Result ℕ HelperFault → List Span → Type 0
  StopsAtKey events result after =
      ((¬ IsReadable shape memory held (slice_index registers 2) 4)
      × Stops BadAddress held events result after)
      ⊎ (IsOddKey shape memory held (slice_index registers 2)
      × Stops Misaligned held events result after)

  -- map_lookup_elem: the address of the index's value, of this CPU if each has its own; else 0
  abbrev pub LooksUpIndex : ℕ → ℕ → ArrayShape → List Event → Result ℕ HelperFault → List Span → Type 0
  LooksUpIndex cpu a g events result after =
      StopsAtKey events result after
      ⊎ ((index : ℕ) × ReadsIndex shape memory held (slice_index registers 2) index events
      × (result ≡ Ok (if nat_lt index g.max then (fixed_span a g (copy_for cpu g) index).at else 0))
      × (after ≡ held))

  -- an update's answer: a refusal, or 0 after the n bytes at R3 were copied there
  abbrev pub Answers : ℕ → ℕ → Option ℕ → List Event → Result ℕ HelperFault → Type 0
  Answers to n (Some refusal) events result = (events ≡ []) × (result ≡ Ok refusal)
  Answers to n None events result =
      (result ≡ Ok 0) × Copies memory (slice_index registers 3) to n events

  -- map_update_elem: both addresses are tested; the key is read; then nothing is copied, or all of
  -- the value, part by part
  abbrev pub UpdatesIndex : ℕ → ℕ → ArrayShape → List Event → Result ℕ HelperFault → List Span → Type 0
  UpdatesIndex cpu a g events result after =
      (((¬ IsReadable shape memory held (slice_index registers 2) 4)
      ⊎ (¬ IsReadable shape memory held (slice_index registers 3) g.value))
      × Stops BadAddress held events result after)
      ⊎ (IsReadable shape memory held (slice_index registers 3) g.value
      × IsOddKey shape memory held (slice_index registers 2)
      × Stops Misaligned held events result after)
      ⊎ ((index : ℕ) × (first : List Event) × (rest : List Event)
      × IsReadable shape memory held (slice_index registers 3) g.value
      × ReadsIndex shape memory held (slice_index registers 2) index first
      × (events ≡ first ++ rest)
      × Answers (fixed_span a g (copy_for cpu g) index).at g.value
      (array_refusal g index (slice_index registers 4)) rest result
      × (after ≡ held))

  -- map_delete_elem: no index leaves an array (EINVAL), and its key isn't read
  abbrev pub DeletesIndex : List Event → Result ℕ HelperFault → List Span → Type 0
  DeletesIndex events result after =
      StopsAtKey events result after
      ⊎ (IsReadable shape memory held (slice_index registers 2) 4
      × (¬ IsOddKey shape memory held (slice_index registers 2))
      × (events ≡ []) × (result ≡ Ok (2 ^ 64 - 22)) × (after ≡ held))

  -- the map helpers on an array, by their numbers
  abbrev pub CallsArray : ℕ → ℕ → ArrayShape → ℕ → List Event → Result ℕ HelperFault → List Span → Type 0
  CallsArray cpu a g n events result after =
      ((n ≡ lookup_number) × LooksUpIndex cpu a g events result after)
      ⊎ ((n ≡ update_number) × UpdatesIndex cpu a g events result after)
      ⊎ ((n ≡ delete_number) × DeletesIndex events result after)

-- the helper of this number on a CPU: its number, or a map helper, for which R1 must be a map, or
-- else an array
abbrev pub CallsHelper : Shape → ℕ → ℕ → List ℕ → PrivateMemory → List Span → List Event
    → Result ℕ HelperFault → List Span → Type 0
CallsHelper shape n cpu registers memory held events result after =
    ((n ≡ processor_number) × (events ≡ []) × (result ≡ Ok cpu) × (after ≡ held))
    ⊎ ((n ≢ processor_number) × ((m : ℕ) (h : MapShape) → ¬ IsMapAt shape.maps registers m h)
    × ((a : ℕ) (g : ArrayShape) → ¬ IsArrayAt shape.arrays registers a g)
    × Stops NotAMap held events result after)
    ⊎ ((m : ℕ) × (h : MapShape) × IsMapAt shape.maps registers m h
    × CallsMap shape memory registers held m h n events result after)
    ⊎ ((a : ℕ) × (g : ArrayShape) × IsArrayAt shape.arrays registers a g
    × ((m : ℕ) (h : MapShape) → ¬ IsMapAt shape.maps registers m h)
    × CallsArray shape memory registers held cpu a g n events result after)
