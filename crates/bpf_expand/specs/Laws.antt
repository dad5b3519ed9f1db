-- Sets of states that cover all that schedules lead to.
use Rattle.std.specs.Prelude.{◌≡◌, ◌≢◌, ℕ, ◌<◌, ◌⊎◌, All, Bool, false, true, List, [], Ok, Some, slice_get}
use Rattle.hex.specs.Hex.{decode_of}
use Rattle.bpf_names.specs.Names.{Names}
use Rattle.bpf_cpu.specs.Task.{Task}
use Rattle.bpf_machine.specs.Schedule.{World, RunsSchedule}
use Rattle.bpf_machine.specs.Race.{IsRace}
use Rattle.bpf_machine.specs.Rounds.{HaveEnded}
use Rattle.bpf_machine.specs.Machine.{MachineState, Shows}
use Rattle.bpf_machine.specs.Laws.{IsFresh}
use Rattle.bpf_machine.specs.Patient.{IsCoveredRichly, NoneRanOut}
use Rattle.bpf_machine.specs.Cover.{IsShown, IsCovered}
use Rattle.bpf_jobs.specs.Printed.{Tells}
use Rattle.bpf_expand.specs.declared.successor.Successor.{Successor}
use Rattle.bpf_shared.specs.Store.{Plain}
use Rattle.bpf_races.specs.declared.found.Pair.{Pair}
use Rattle.bpf_races.specs.Races.{RaceFound, IsTold}
use Rattle.bpf_expand.specs.Filter.{AreRacesOf, IsReportIn}
use Rattle.bpf_expand.specs.Parts.{IsCall}
use Rattle.bpf_expand.specs.State.{Host, AreSuccessors, IsStateOf, IsIdleIn, IsSuccessor}

-- the bytes are among these
abbrev pub IsAmong : List (List ℕ) → List ℕ → Type 0
IsAmong states bytes = (i : ℕ) × (slice_get states i ≡ Some bytes)

-- of each of them, what each CPU's turn leads to is among them
abbrev pub AreClosed : Host → List (List ℕ) → Type 0
AreClosed h states = (bytes : List ℕ) (c : ℕ) → IsAmong states bytes
    → IsIdleIn h bytes c
    ⊎ ((n : ℕ) × (next : List ℕ) × IsSuccessor h bytes c n next × IsAmong states next)

-- each of these machines is saved as one of them
abbrev pub AreOf : Host → List (List ℕ) → List MachineState → Type 0
AreOf h states machines = (i : ℕ) (m : MachineState) → slice_get machines i ≡ Some m
    → (bytes : List ℕ) × IsAmong states bytes × IsStateOf h m bytes

-- machines that are saved so cover all that schedules lead to from what a machine shows before its
-- first turn that is saved as one of them; and where no CPU has work left, one shows that
abbrev pub StatesCover : Type 0
StatesCover =
    (h : Host) (states : List (List ℕ)) (first : MachineState) (bytes : List ℕ) (w z : World)
    (schedule : List ℕ)
    → h.patient ≡ false → AreClosed h states → IsStateOf h first bytes → IsAmong states bytes
    → IsFresh w → Shows first w → RunsSchedule w schedule z
    → (machines : List MachineState) × AreOf h states machines × IsCovered machines z
    × (HaveEnded z.jobs → IsShown machines z)

-- where budgets are passed over: the same of schedules in which no job runs out of budget
abbrev pub PatientStatesCover : Type 0
PatientStatesCover =
    (h : Host) (states : List (List ℕ)) (first : MachineState) (bytes : List ℕ) (w z : World)
    (schedule : List ℕ)
    → h.patient ≡ true → AreClosed h states → IsStateOf h first bytes → IsAmong states bytes
    → IsFresh w → Shows first w → RunsSchedule w schedule z → NoneRanOut z.jobs
    → (machines : List MachineState) × AreOf h states machines × IsCoveredRichly machines z
    × (HaveEnded z.jobs → IsShown machines z)

-- each of some states was read by a call of which all are among them: those that it read, those that it
-- knew beside them, and the new ones
abbrev pub AreCalled : Host → Names → List (List ℕ) → Type 0
AreCalled h names states = (bytes : List ℕ) → IsAmong states bytes
    → (read seen new ends : List (List ℕ)) × IsCall h names read seen new ends × IsAmong read bytes
    × ((b : List ℕ) → IsAmong read b → IsAmong states b)
    × ((b : List ℕ) → IsAmong seen b → IsAmong states b)
    × ((b : List ℕ) → IsAmong new b → IsAmong states b)

-- then what each CPU's turn leads to from each of them is among them
abbrev pub CallsClose : Type 0
CallsClose =
    (h : Host) (names : Names) (states : List (List ℕ)) → AreCalled h names states → AreClosed h states

-- ---- lines
-- the bytes are those of one of the lines
abbrev pub HasLine : List (List ℕ) → List ℕ → Type 0
HasLine lines bytes = (line : List ℕ) × IsAmong lines line × (decode_of line ≡ Ok bytes)

-- the line is printed, and each state that it leads to has a line
abbrev pub IsAnswered : Host → Names → List (List ℕ) → List ℕ → Type 0
IsAnswered h names lines line = (bytes : List ℕ) × (decode_of line ≡ Ok bytes)
    × (((found : List Successor) × AreSuccessors h bytes found × (found ≢ [])
    × All (λ s. HasLine lines s.bytes.items) found)
    ⊎ ((report : List ℕ) × IsReportIn h names bytes report))

-- so is each of them
abbrev pub AreAnswered : Host → Names → List (List ℕ) → Type 0
AreAnswered h names lines = (line : List ℕ) → IsAmong lines line → IsAnswered h names lines line

-- what is printed of a world is the report of one of the lines
abbrev pub IsReported : Host → Names → List (List ℕ) → World → Type 0
IsReported h names lines z = (bytes report : List ℕ) × (stopped : Bool) × HasLine lines bytes
    × IsReportIn h names bytes report × Tells z.store z.jobs names true report stopped

-- where budgets are passed over, no job has run out of its own
abbrev pub FitBudgets : (patient : Bool) → List Task → Type 0
FitBudgets patient jobs = patient ≡ true → NoneRanOut jobs

-- lines that are closed so, the first state's among them, have all outcomes: whatever schedule leads
-- to an end from what a machine shows before its first turn, a line's report is printed of it; of a
-- patient host, whatever schedule in which no job runs out of budget
abbrev pub LinesCover : Type 0
LinesCover =
    (h : Host) (names : Names) (lines : List (List ℕ)) (first : MachineState) (bytes : List ℕ) (w z : World)
    (schedule : List ℕ)
    → AreAnswered h names lines → IsStateOf h first bytes → HasLine lines bytes
    → IsFresh w → Shows first w → RunsSchedule w schedule z → FitBudgets h.patient z.jobs
    → HaveEnded z.jobs → IsReported h names lines z

-- each of the lines is answered by these races
abbrev pub AreTold : Host → List (List ℕ) → (List ℕ → List RaceFound) → Type 0
AreTold h lines told = (line : List ℕ) → IsAmong lines line
    → (bytes : List ℕ) × (decode_of line ≡ Ok bytes) × AreRacesOf h bytes (told line)

-- one of the lines is answered by a race of these two, who are there, for the map or array and the
-- key or index of the value at the address
abbrev pub IsToldAmong : List (List ℕ) → (List ℕ → List RaceFound) → Plain → Pair → ℕ → Type 0
IsToldAmong lines told s pair b =
    (line : List ℕ) × IsAmong lines line × IsTold (told line) s pair b

-- if races are printed, such lines have all of them: whatever CPUs race wherever they are, for whatever
-- byte and wherever such a schedule leads, the answer of one of the lines has it
abbrev pub LinesHaveRaces : Type 0
LinesHaveRaces =
    (h : Host) (names : Names) (lines : List (List ℕ)) (told : List ℕ → List RaceFound)
    (first : MachineState) (bytes : List ℕ) (w z : World) (schedule : List ℕ)
    → AreAnswered h names lines → AreTold h lines told → IsStateOf h first bytes
    → HasLine lines bytes → IsFresh w → Shows first w → RunsSchedule w schedule z
    → FitBudgets h.patient z.jobs → (pair : Pair) (b : ℕ) → pair.one.cpu < pair.other.cpu
    → IsRace z pair.one pair.other b → IsToldAmong lines told z.store pair b
