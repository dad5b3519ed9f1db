-- What `held` shows: the values that a CPU's run holds, as its program may read them (our own choice).
use Rattle.std.specs.Prelude.{◌≡◌, ℕ, zero, suc, ◌-◌, ◌/◌, ◌⊎◌, List, [], ◌++◌, Some, codes, length, slice_index_or}
use Rattle.std.specs.Fmt.{decimal}
use Rattle.hex.specs.Hex.{encode_lower}
use Rattle.bpf_shared.specs.declared.events.Span.{Span}
use Rattle.bpf_shared.specs.Shape.{first_value, map_area}
use Rattle.bpf_shared.specs.Sound.{IsSoundStore}
use Rattle.bpf_shared.specs.Store.{Plain}
use Rattle.bpf_plain.specs.PlainStore.{Contents, StandsFor}
use Rattle.bpf_plain.specs.Shows.{LeadsTo}
use Rattle.bpf_cpu.specs.declared.cpu.Cpu.{Cpu}
use Rattle.bpf_cpu.specs.Task.{Task, InHand}
use Rattle.bpf_machine.specs.Hands.{IsAt}
use Rattle.bpf_debug.specs.Answer.{IsOff}
use Rattle.bpf_debug.specs.Read.{ShowsBytes}

-- ---- a value's name

-- the number of the map among whose values the address is
abbrev pub map_at : ℕ → ℕ
map_at a = (a - first_value) / map_area

-- a key that leads to the value at the address; or the address itself, where none does: the value was
-- deleted or replaced, and is still held
abbrev pub IsPlace : Plain → ℕ → List ℕ → Type 0
IsPlace s at text =
    ((key : List ℕ) × LeadsTo s at key × (text ≡ encode_lower key))
    ⊎ (((key : List ℕ) → LeadsTo s at key → ⊥) × (text ≡ codes "at " ++ decimal at))

-- the map's name, and where in it the value is
abbrev pub value_name : List (List ℕ) → ℕ → List ℕ → List ℕ
value_name names at place =
    slice_index_or names (map_at at) [] ++ codes "[" ++ place ++ codes "]"

abbrev pub IsValueName : List (List ℕ) → Plain → ℕ → List ℕ → Type 0
IsValueName names s at name =
    (place : List ℕ) × IsPlace s at place × (name ≡ value_name names at place)

-- ---- what `held` shows

-- the value's name, its address, and its bytes
abbrev pub held_line : List ℕ → ℕ → List ℕ → List ℕ
held_line name at shown = name ++ codes " " ++ decimal at ++ codes " " ++ shown

-- the line of a value
abbrev pub IsHeldLine : List (List ℕ) → Plain → Cpu → Span → List ℕ → Type 0
IsHeldLine names s state p line =
    (name : List ℕ) × (shown : List ℕ) × IsValueName names s p.at name
    × ShowsBytes s state (Some p.at) p.size shown × (line ≡ held_line name p.at shown)

abbrev pub span_of : List Span → ℕ → Span
span_of spans n = slice_index_or spans n (record { at = 0; size = 0 })

-- a line a value, of the first n, in the order of their first lookups
abbrev pub TellsHeld : List (List ℕ) → Plain → Cpu → ℕ → List ℕ → Type 0
TellsHeld names s state zero text = text ≡ []
TellsHeld names s state (suc n) text =
    (before : List ℕ) × (line : List ℕ) × TellsHeld names s state n before
    × IsHeldLine names s state (span_of state.held n) line × (text ≡ before ++ line)

-- those of a CPU with a job in hand, or where it is
abbrev pub IsHeldText : List (List ℕ) → Plain → List Task → ℕ → List ℕ → Type 0
IsHeldText names s jobs c text =
    ((j : ℕ) × (task : Task) × (state : Cpu) × (left : ℕ) × IsAt jobs c j task (InHand state left)
    × TellsHeld names s state (length state.held) text)
    ⊎ IsOff jobs c text

-- of each plain store that the machine's shows
abbrev pub ShowsHeld : List (List ℕ) → Contents → Cpu → ℕ → List ℕ → Type 0
ShowsHeld names p state n text =
    (s : Plain) → IsSoundStore s → StandsFor p s → TellsHeld names s state n text
