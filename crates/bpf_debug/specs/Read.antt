-- What `mem` and `map` show: bytes as a CPU's program may read them, and a map's keys with their
-- values (our own choice).
use Rattle.std.specs.Prelude.{◌≡◌, ℕ, zero, suc, ◌+◌, ◌^◌, ◌<◌, ◌≤◌, true, false, ◌⊎◌, List, [], ◌++◌, Option, Some, None, codes, length}
use Rattle.std.specs.Prelude.{slice_get, slice_index, slice_index_or}
use Rattle.std.specs.Fmt.{decimal}
use Rattle.hex.specs.Hex.{encode_lower}
use Rattle.bpf_mem.specs.Memory.{byte_at}
use Rattle.bpf_shared.specs.Store.{Plain}
use Rattle.bpf_shared.specs.Sound.{IsSoundStore}
use Rattle.bpf_shared.specs.declared.shapes.ArrayShape.{ArrayShape}
use Rattle.bpf_plain.specs.PlainStore.{Contents, StandsFor}
use Rattle.bpf_plain.specs.Shows.{fixed_of}
use Rattle.bpf_names.specs.Names.{Variable}
use Rattle.bpf_jobs.specs.Printed.{Called, value_lines, variable_line}
use Rattle.bpf_shared.specs.Listing.{Pair, pair_at, IsListing, IsByteAt, IsOnlyByteAt}
use Rattle.bpf_helpers.specs.Arrays.{IsInArray}
use Rattle.bpf_helpers.specs.Held.{reaches}
use Rattle.bpf_cpu.specs.declared.cpu.Cpu.{Cpu}
use Rattle.bpf_cpu.specs.Task.{Task, InHand}
use Rattle.bpf_machine.specs.Hands.{IsAt}
use Rattle.bpf_debug.specs.Answer.{IsOff}

-- ---- bytes

-- the address is in a value that the run may reach: one that it holds, or an array's
abbrev pub MayReach : Plain → Cpu → ℕ → Type 0
MayReach s state a = (reaches state.held a ≡ true) ⊎ IsInArray s.shape a 1

-- the program in this state may read this byte at the address: it is the CPU's own, or it lies in
-- a value that the run may reach
abbrev pub MayRead : Plain → Cpu → ℕ → ℕ → Type 0
MayRead s state a b =
    (byte_at state.memory a ≡ Some b)
    ⊎ ((byte_at state.memory a ≡ None) × MayReach s state a × IsOnlyByteAt s a b)

-- it may read none there
abbrev pub MayNotRead : Plain → Cpu → ℕ → Type 0
MayNotRead s state a =
    (byte_at state.memory a ≡ None)
    × ((¬ MayReach s state a) ⊎ ((b : ℕ) → IsByteAt s a b → ⊥))

-- the bytes from the address on, this many, are these
pub record AreBytesAt (s : Plain) (state : Cpu) (a n : ℕ) (bytes : List ℕ) : Type 0 where
  pub within : a + n < 2 ^ 64
  pub count : length bytes ≡ n
  pub each : (k : ℕ) → k < n → MayRead s state (a + k) (slice_index bytes k)

-- one of them isn't there
abbrev pub IsUnreadable : Plain → Cpu → ℕ → ℕ → Type 0
IsUnreadable s state a n =
    (2 ^ 64 ≤ a + n) ⊎ ((k : ℕ) × (k < n) × MayNotRead s state (a + k))

abbrev pub unreadable : List ℕ
unreadable = codes "unreadable\n"

-- the bytes in hex, where each may be read; a number that is too large for an address names none
abbrev pub ShowsBytes : Plain → Cpu → Option ℕ → ℕ → List ℕ → Type 0
ShowsBytes s state None n text = text ≡ unreadable
ShowsBytes s state (Some a) n text =
    ((bytes : List ℕ) × AreBytesAt s state a n bytes × (text ≡ encode_lower bytes ++ codes "\n"))
    ⊎ (IsUnreadable s state a n × (text ≡ unreadable))

-- those of a CPU with a job in hand, or where it is
abbrev pub IsMemoryText : Plain → List Task → ℕ → Option ℕ → ℕ → List ℕ → Type 0
IsMemoryText s jobs c at n text =
    ((j : ℕ) × (task : Task) × (state : Cpu) × (left : ℕ) × IsAt jobs c j task (InHand state left)
    × ShowsBytes s state at n text)
    ⊎ IsOff jobs c text

-- ---- of each plain store that the machine's shows

abbrev pub ReachesByte : Contents → Cpu → ℕ → Type 0
ReachesByte p state a = (s : Plain) → IsSoundStore s → StandsFor p s → MayReach s state a

abbrev pub ReachesNoByte : Contents → Cpu → ℕ → Type 0
ReachesNoByte p state a = (s : Plain) → IsSoundStore s → StandsFor p s → ¬ MayReach s state a

abbrev pub ReadsByte : Contents → Cpu → ℕ → ℕ → Type 0
ReadsByte p state a b = (s : Plain) → IsSoundStore s → StandsFor p s → MayRead s state a b

abbrev pub ReadsNoByte : Contents → Cpu → ℕ → Type 0
ReadsNoByte p state a = (s : Plain) → IsSoundStore s → StandsFor p s → MayNotRead s state a

abbrev pub ReadsBytes : Contents → Cpu → ℕ → ℕ → List ℕ → Type 0
ReadsBytes p state a n bytes =
    (s : Plain) → IsSoundStore s → StandsFor p s → AreBytesAt s state a n bytes

abbrev pub ReadsNoBytes : Contents → Cpu → ℕ → ℕ → Type 0
ReadsNoBytes p state a n =
    (s : Plain) → IsSoundStore s → StandsFor p s → IsUnreadable s state a n

abbrev pub TellsBytes : Contents → Cpu → Option ℕ → ℕ → List ℕ → Type 0
TellsBytes p state at n text =
    (s : Plain) → IsSoundStore s → StandsFor p s → ShowsBytes s state at n text

-- ---- maps

-- the first map of this name
abbrev pub IsNamed : List (List ℕ) → List ℕ → ℕ → Type 0
IsNamed names name m =
    (slice_get names m ≡ Some name) × ((k : ℕ) → k < m → slice_get names k ≡ Some name → ⊥)

-- no map has it
abbrev pub IsNoName : List (List ℕ) → List ℕ → Type 0
IsNoName names name = (k : ℕ) → slice_get names k ≡ Some name → ⊥

-- a key with its value, both in lower case hex
abbrev pub pair_line : Pair → List ℕ
pair_line p = encode_lower p.0 ++ codes "=" ++ encode_lower p.1 ++ codes "\n"

-- a line a key, of the first n
abbrev pub pair_lines : ℕ → List Pair → List ℕ
pair_lines zero pairs = []
pair_lines (suc n) pairs = pair_lines n pairs ++ pair_line (pair_at pairs n)

-- the keys of a map with their values, in the order of the keys' bytes
abbrev pub IsMapText : Plain → ℕ → List ℕ → Type 0
IsMapText s m text =
    (pairs : List Pair) × IsListing s m pairs × (text ≡ pair_lines (length pairs) pairs)

-- an array, by its own name alone
abbrev pub array_named : List (List ℕ) → (maps a : ℕ) → Called
array_named names maps a =
    record { number = a; name = slice_index_or names (maps + a) []; variables = [] }

-- its values, also where they may only be read
abbrev pub values_text : Plain → Called → Option ArrayShape → List ℕ
values_text s array None = []
values_text s array (Some g) = value_lines s array g g.max

-- of the maps and the arrays after them the one of this number: a map's keys with their values, or an
-- array's values
abbrev pub IsTableText : Plain → List (List ℕ) → ℕ → List ℕ → Type 0
IsTableText s names m text =
    ((m < length s.shape.maps) × IsMapText s m text)
    ⊎ ((a : ℕ) × (m ≡ length s.shape.maps + a)
    × (text ≡ values_text s (array_named names (length s.shape.maps) a) (slice_get s.shape.arrays a)))

-- the keys of a map alone, in their order
abbrev pub key_line : Pair → List ℕ
key_line p = encode_lower p.0 ++ codes "\n"

abbrev pub key_lines : ℕ → List Pair → List ℕ
key_lines zero pairs = []
key_lines (suc n) pairs = key_lines n pairs ++ key_line (pair_at pairs n)

abbrev pub IsKeysText : Plain → ℕ → List ℕ → Type 0
IsKeysText s m text =
    (pairs : List Pair) × IsListing s m pairs × (text ≡ key_lines (length pairs) pairs)

abbrev pub index_line : ℕ → List ℕ
index_line i = decimal i ++ codes "\n"

-- the first n indices of an array
abbrev pub index_lines : ℕ → List ℕ
index_lines zero = []
index_lines (suc n) = index_lines n ++ index_line n

abbrev pub indices_text : Option ArrayShape → List ℕ
indices_text None = []
indices_text (Some g) = index_lines g.max

-- of the maps and the arrays after them the one of this number: a map's keys, or an array's indices
abbrev pub AreKeysOf : Plain → ℕ → List ℕ → Type 0
AreKeysOf s m text =
    ((m < length s.shape.maps) × IsKeysText s m text)
    ⊎ ((a : ℕ) × (m ≡ length s.shape.maps + a)
    × (text ≡ indices_text (slice_get s.shape.arrays a)))

abbrev pub TellsKeys : Contents → ℕ → List ℕ → Type 0
TellsKeys p m text = (s : Plain) → IsSoundStore s → StandsFor p s → IsKeysText s m text

abbrev pub TellsMap : Contents → ℕ → List ℕ → Type 0
TellsMap p m text = (s : Plain) → IsSoundStore s → StandsFor p s → IsMapText s m text

abbrev pub TellsTableKeys : Contents → ℕ → List ℕ → Type 0
TellsTableKeys p m text = (s : Plain) → IsSoundStore s → StandsFor p s → AreKeysOf s m text

-- ---- variables

-- the number of one, of whose array this is the first value; none where there is none
abbrev pub number_text : Variable → Option (List ℕ) → List ℕ
number_text v None = []
number_text v (Some bytes) = variable_line v bytes

abbrev pub IsNumberText : Plain → Variable → List ℕ → Type 0
IsNumberText s v text = text ≡ number_text v (fixed_of s v.array 0 0)

abbrev pub TellsNumber : Contents → Variable → List ℕ → Type 0
TellsNumber p v text = (s : Plain) → IsSoundStore s → StandsFor p s → IsNumberText s v text

abbrev pub TellsTable : Contents → List (List ℕ) → ℕ → List ℕ → Type 0
TellsTable p names m text =
    (s : Plain) → IsSoundStore s → StandsFor p s → IsTableText s names m text
