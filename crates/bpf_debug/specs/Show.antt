-- What `show` shows: the registers that a CPU's last turn changed, each number also as what it is
-- where it is an address (our own choice).
use Rattle.std.specs.Prelude.{◌≡◌, ℕ, suc, ◌+◌, ◌-◌, ◌*◌, ◌/◌, ◌%◌, ◌==◌, Bool, false, ◌&&◌, nat_le, nat_lt, if◌then◌else◌, ◌⊎◌, List, []}
use Rattle.std.specs.Prelude.{◌∷◌, ◌++◌, Option, Some, None, codes, length, slice_get, slice_index_or}
use Rattle.std.specs.Fmt.{decimal, digits}
use Rattle.bpf_shared.specs.declared.events.Span.{Span}
use Rattle.bpf_shared.specs.declared.shapes.ArrayShape.{ArrayShape}
use Rattle.bpf_shared.specs.Shape.{Shape, array_stride, copies, copy_stride, first_value, map_area}
use Rattle.bpf_shared.specs.Store.{Plain}
use Rattle.bpf_names.specs.Names.{Names, Variable, address_of, variable_at}
use Rattle.bpf_mem.specs.Addresses.{context_base, frame_base, packet_base}
use Rattle.bpf_helpers.specs.Held.{is_in}
use Rattle.bpf_cpu.specs.declared.cpu.Cpu.{Cpu}
use Rattle.bpf_cpu.specs.Task.{Task, InHand}
use Rattle.bpf_machine.specs.Hands.{IsAt, IsFree}
use Rattle.bpf_machine.specs.Schedule.{World}
use Rattle.bpf_jobs.specs.Printed.{place_text}
use Rattle.bpf_debug.specs.Held.{IsValueName}
use Rattle.bpf_debug.specs.Recall.{Past}

-- ---- addresses

-- the first of these values that an address is in
abbrev pub value_at : List Span → ℕ → Option Span
value_at [] a = None
value_at (p ∷ held) a = if is_in a p then Some p else value_at held a

-- a value's name, and how far past its beginning
abbrev pub place_words : List ℕ → ℕ → List ℕ
place_words name behind = codes " " ++ name ++ codes "+" ++ decimal behind

-- a variable's name, and how far past its first byte
abbrev pub variable_words : Variable → ℕ → List ℕ
variable_words v a = place_words (codes "var " ++ v.name) (a - address_of v)

-- an offset from the first byte of an array's values on: of which copy of them it is, of which index,
-- and how far past that value's beginning
abbrev pub copy_in : ArrayShape → ℕ → ℕ
copy_in g offset = offset / copy_stride g

abbrev pub index_in : ArrayShape → ℕ → ℕ
index_in g offset = offset % copy_stride g / array_stride g

abbrev pub past_in : ArrayShape → ℕ → ℕ
past_in g offset = offset % copy_stride g % array_stride g

-- a value has that byte
abbrev pub is_in_value : ℕ → ArrayShape → ℕ → Bool
is_in_value cpus g offset =
    nat_lt (copy_in g offset) (copies cpus g)
    && (nat_lt (index_in g offset) g.max && nat_lt (past_in g offset) g.value)

-- the array's name, and which value it is
abbrev pub element_name : List ℕ → ArrayShape → ℕ → List ℕ
element_name name g offset = name ++ (codes "["
    ++ (place_text g.per_cpu (index_in g offset) (copy_in g offset) ++ codes "]"))

abbrev pub element_words : ℕ → List ℕ → ArrayShape → ℕ → List ℕ
element_words cpus name g offset =
    if is_in_value cpus g offset
    then place_words (element_name name g offset) (past_in g offset) else []

-- in the area of an array by its number: arrays' names follow those of the maps
abbrev pub array_words : Names → Shape → ℕ → ℕ → Option ArrayShape → List ℕ
array_words names h array offset None = []
array_words names h array offset (Some g) =
    element_words h.cpus (slice_index_or names.maps (length h.maps + array) []) g offset

-- where arrays' areas begin, which follow those of sixteen maps
abbrev pub first_array : ℕ
first_array = first_value + map_area * 16

-- a variable that has the byte, or else the value of an array
abbrev pub fixed_words : Names → Shape → ℕ → Option Variable → List ℕ
fixed_words names h a (Some v) = variable_words v a
fixed_words names h a None =
    let array = (a - first_array) / map_area in
    array_words names h array ((a - first_array) % map_area) (slice_get h.arrays array)

-- the frame, and how far before its end: of 8 frames, each of 512 bytes
abbrev pub below_words : ℕ → ℕ → List ℕ
below_words frame below = codes " frame " ++ decimal frame ++ codes " - " ++ decimal below

abbrev pub frame_words : ℕ → ℕ → List ℕ
frame_words frame at =
    if nat_lt frame 8 then (if nat_le at 512 then below_words frame (512 - at) else []) else []

-- how far past the context's beginning: it has 4,096 bytes at most
abbrev pub context_words : ℕ → List ℕ
context_words at = if nat_le at 4096 then codes " context + " ++ decimal at else []

-- how far past the packet's beginning: it has 16,384 bytes at most
abbrev pub packet_words : ℕ → List ℕ
packet_words at = if nat_le at 16384 then codes " packet + " ++ decimal at else []

abbrev pub given_words : ℕ → List ℕ
given_words a =
    if nat_le context_base a then context_words (a - context_base)
    else (if nat_le packet_base a then packet_words (a - packet_base) else [])

abbrev pub own_words : ℕ → List ℕ
own_words a =
    if nat_le (frame_base 0) a
    then frame_words ((a - frame_base 0) / 0x1000) ((a - frame_base 0) % 0x1000)
    else given_words a

-- in a value of an array, in a frame, in the context or in the packet
abbrev pub other_words : Names → Shape → ℕ → List ℕ
other_words names h a =
    if nat_le first_array a then fixed_words names h a (variable_at a names.variables)
    else own_words a

-- what an address in this held value is, or in none
abbrev pub IsWordsIn : Names → Plain → ℕ → Option Span → List ℕ → Type 0
IsWordsIn names s a (Some p) text =
    (name : List ℕ) × IsValueName names.maps s p.at name × (text ≡ place_words name (a - p.at))
IsWordsIn names s a None text = text ≡ other_words names s.shape a

-- what a number is, where it is an address in a value that the run holds or that every CPU reaches,
-- in a frame, in the context or in the packet
abbrev pub IsMeaning : Names → Plain → List Span → ℕ → List ℕ → Type 0
IsMeaning names s held a text = IsWordsIn names s a (value_at held a) text

-- ---- registers

abbrev pub shown_line : ℕ → ℕ → List ℕ → List ℕ
shown_line k n meaning =
    codes "r" ++ decimal k ++ codes " " ++ decimal n ++ codes " 0x" ++ digits 16 false n ++ meaning
    ++ codes "\n"

abbrev pub IsShownLine : Names → Plain → List Span → ℕ → ℕ → List ℕ → Type 0
IsShownLine names s held k n line =
    (meaning : List ℕ) × IsMeaning names s held n meaning × (line ≡ shown_line k n meaning)

-- a line each, from the k-th on
abbrev pub AreShownLines : Names → Plain → List Span → ℕ → List ℕ → List (List ℕ) → Type 0
AreShownLines names s held k [] [] = Unit {0}
AreShownLines names s held k (n ∷ ns) (line ∷ lines) =
    IsShownLine names s held k n line × AreShownLines names s held (suc k) ns lines
AreShownLines names s held k ns lines = ⊥

-- whether the k-th was this number
abbrev pub is_same : List ℕ → ℕ → ℕ → Bool
is_same before k n = nat_lt k (length before) && (slice_index_or before k 0 == n)

-- the lines of those that were other numbers before, or none
abbrev pub changed_text : List ℕ → ℕ → List ℕ → List (List ℕ) → List ℕ
changed_text before k (n ∷ ns) (line ∷ lines) =
    (if is_same before k n then [] else line) ++ changed_text before (suc k) ns lines
changed_text before k ns lines = []

-- the registers of a CPU; none where it has no job in hand
abbrev pub HasRegisters : List Task → ℕ → List ℕ → Type 0
HasRegisters jobs c registers =
    ((j : ℕ) × (task : Task) × (state : Cpu) × (left : ℕ) × IsAt jobs c j task (InHand state left)
    × (registers ≡ state.registers))
    ⊎ (IsFree jobs c × (registers ≡ []))

-- those before the turn
abbrev pub IsBefore : ℕ → Option Past → List ℕ → Type 0
IsBefore c None before = before ≡ []
IsBefore c (Some past) before = HasRegisters past.before.jobs c before

-- of a CPU with a job in hand
abbrev pub IsShownText : ℕ → Names → Option Past → World → List ℕ → Type 0
IsShownText c names past w text =
    (j : ℕ) × (task : Task) × (state : Cpu) × (left : ℕ) × (before : List ℕ)
    × (lines : List (List ℕ)) × IsAt w.jobs c j task (InHand state left) × IsBefore c past before
    × AreShownLines names w.store state.held 0 state.registers lines
    × (text ≡ changed_text before 0 state.registers lines)
