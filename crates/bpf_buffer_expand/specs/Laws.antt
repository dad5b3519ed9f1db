-- Sets of states that cover all that schedules of moves lead to.
use Rattle.std.specs.Prelude.{◌≡◌, ◌≢◌, ℕ, ◌⊎◌, All, Bool, false, true, List, [], Ok, Some, slice_get}
use Rattle.hex.specs.Hex.{decode_of}
use Rattle.bpf_names.specs.Names.{Names}
use Rattle.bpf_machine.specs.Schedule.{World}
use Rattle.bpf_machine.specs.Rounds.{HaveEnded}
use Rattle.bpf_machine.specs.Laws.{IsFresh}
use Rattle.bpf_machine.specs.Patient.{NoneRanOut}
use Rattle.bpf_x86.specs.Machine.{X86, Move, RunsMoves, drained}
use Rattle.bpf_buffering.specs.Search.{BufferedState, ShowsX86, IsShownX86}
use Rattle.bpf_jobs.specs.Printed.{Tells}
use Rattle.bpf_expand.specs.State.{Host}
use Rattle.bpf_expand.specs.Laws.{FitBudgets, HasLine, IsAmong}
use Rattle.bpf_buffer_expand.specs.declared.successor.Successor.{Successor}
use Rattle.bpf_buffer_expand.specs.Filter.{IsReportIn}
use Rattle.bpf_buffer_expand.specs.State.{AreSuccessors, HasNoneIn, IsStateOf, IsSuccessor}

-- of each of them, what each move leads to is among them
abbrev pub AreClosed : Host → List (List ℕ) → Type 0
AreClosed h states = (bytes : List ℕ) (move : Move) → IsAmong states bytes
    → HasNoneIn h bytes move
    ⊎ ((c n : ℕ) × (next : List ℕ) × IsSuccessor h bytes move c n next × IsAmong states next)

-- each of these machines is saved as one of them
abbrev pub AreOf : Host → List (List ℕ) → List BufferedState → Type 0
AreOf h states machines = (i : ℕ) (m : BufferedState) → slice_get machines i ≡ Some m
    → (bytes : List ℕ) × IsAmong states bytes × IsStateOf h m bytes

-- machines that are saved so show each machine without work that schedules of moves lead to, from what
-- a machine shows before its first turn that is saved as one of them
abbrev pub StatesCoverX86 : Type 0
StatesCoverX86 =
    (h : Host) (states : List (List ℕ)) (first : BufferedState) (bytes : List ℕ) (w : World)
    (moves : List Move) (z : X86)
    → h.patient ≡ false → AreClosed h states → IsStateOf h first bytes → IsAmong states bytes
    → IsFresh w → ShowsX86 first (drained w) → RunsMoves (drained w) moves z → HaveEnded z.world.jobs
    → (machines : List BufferedState) × AreOf h states machines × IsShownX86 machines z

-- where budgets are passed over: each to which they lead while no job runs out of budget
abbrev pub PatientStatesCoverX86 : Type 0
PatientStatesCoverX86 =
    (h : Host) (states : List (List ℕ)) (first : BufferedState) (bytes : List ℕ) (w : World)
    (moves : List Move) (z : X86)
    → h.patient ≡ true → AreClosed h states → IsStateOf h first bytes → IsAmong states bytes
    → IsFresh w → ShowsX86 first (drained w) → RunsMoves (drained w) moves z → HaveEnded z.world.jobs
    → NoneRanOut z.world.jobs
    → (machines : List BufferedState) × AreOf h states machines × IsShownX86 machines z

-- ---- lines
-- the line is printed, and each state that its moves lead to has a line
abbrev pub IsAnswered : Host → Names → List (List ℕ) → List ℕ → Type 0
IsAnswered h names lines line = (bytes : List ℕ) × (decode_of line ≡ Ok bytes)
    × (((found : List Successor) × AreSuccessors h bytes found × (found ≢ [])
    × All (λ s. HasLine lines s.bytes.items) found)
    ⊎ ((report : List ℕ) × IsReportIn h names bytes report))

-- so is each of them
abbrev pub AreAnswered : Host → Names → List (List ℕ) → Type 0
AreAnswered h names lines = (line : List ℕ) → IsAmong lines line → IsAnswered h names lines line

-- what is printed of a machine is the report of one of the lines
abbrev pub IsReported : Host → Names → List (List ℕ) → X86 → Type 0
IsReported h names lines z = (bytes report : List ℕ) × (stopped : Bool) × HasLine lines bytes
    × IsReportIn h names bytes report
    × Tells z.world.store z.world.jobs names true report stopped

-- lines that are closed so, the first state's among them, have all outcomes: whatever turns and flushes
-- lead to an end from what a machine shows before its first turn, a line's report is printed of it; of a
-- patient host, whatever moves in which no job runs out of budget
abbrev pub LinesCoverX86 : Type 0
LinesCoverX86 =
    (h : Host) (names : Names) (lines : List (List ℕ)) (first : BufferedState) (bytes : List ℕ)
    (w : World) (moves : List Move) (z : X86)
    → AreAnswered h names lines → IsStateOf h first bytes → HasLine lines bytes
    → IsFresh w → ShowsX86 first (drained w) → RunsMoves (drained w) moves z
    → FitBudgets h.patient z.world.jobs → HaveEnded z.world.jobs → IsReported h names lines z
