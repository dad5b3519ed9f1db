-- Moves, one after the other, with the lines of the jobs that end in them (our own choice).
use Rattle.std.specs.Prelude.{◌≡◌, ℕ, ◌-◌, nat_lt, if◌then◌else◌, List, [], ◌∷◌, ◌++◌, map, length, slice_index_or}
use Rattle.bpf_machine.specs.declared.machine.Turn.{Turn}
use Rattle.bpf_machine.specs.Schedule.{unrolled}
use Rattle.bpf_x86.specs.Machine.{X86, Move, TurnOf, FlushOf, TakesTurn}
use Rattle.bpf_buffering.specs.Search.{BufferedState, ShowsX86, move_of}
use Rattle.bpf_flushes.specs.Moves.{Makes}
use Rattle.bpf_debug.specs.Answer.{ended_text}

-- a turn, or a flush, which changes nothing where nothing waits
abbrev pub TellsMove : X86 → Move → List ℕ → X86 → Type 0
TellsMove x (TurnOf c) text z = (answer : Turn) × TakesTurn x c answer z × (text ≡ ended_text c answer)
TellsMove x (FlushOf c) text z = Makes x (FlushOf c) z × (text ≡ [])

-- several, in order
abbrev pub TellsMoves : X86 → List Move → List ℕ → X86 → Type 0
TellsMoves x [] text z = (text ≡ []) × (z ≡ x)
TellsMoves x (move ∷ moves) text z = (y : X86) × (before : List ℕ) × (more : List ℕ)
    × TellsMove x move before y × TellsMoves y moves more z × (text ≡ before ++ more)

-- those of a schedule, each with how often it is made
abbrev pub all_moves : List (ℕ × ℕ) → List Move
all_moves runs = map move_of (unrolled runs)

-- the CPU of a move
abbrev pub cpu_of : ℕ → ℕ
cpu_of n = if nat_lt n 128 then n else n - 128

-- that of a schedule's last move
abbrev pub last_cpu : List (ℕ × ℕ) → ℕ
last_cpu runs = cpu_of (slice_index_or runs (length runs - 1) (0, 0)).0

-- ---- from each machine that the first shows to one that the second shows, with this text after another
abbrev pub TellsTo : BufferedState → List Move → List ℕ → BufferedState → List ℕ → Type 0
TellsTo old moves before new after = (x : X86) → ShowsX86 old x
    → (z : X86) × (text : List ℕ) × TellsMoves x moves text z × ShowsX86 new z
    × (after ≡ before ++ text)
