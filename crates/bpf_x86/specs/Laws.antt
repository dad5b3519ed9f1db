-- What store buffers add to sequential consistency: nothing, where no schedule leads to a data race.
use Rattle.std.specs.Prelude.{◌≡◌, ℕ, suc, Bool, true, false, List, Some, map, slice_get}
use Rattle.bpf_insn.specs.declared.instruction.Insn.{Insn}
use Rattle.bpf_insn.specs.Encoding.{Fits}
use Rattle.bpf_shared.specs.declared.events.Event.{Event}
use Rattle.bpf_shared.specs.Store.{Plain}
use Rattle.bpf_shared.specs.History.{PlainlyLegal, entry}
use Rattle.bpf_loader.specs.Loaded.{Loaded}
use Rattle.bpf_loader.specs.Places.{Begins}
use Rattle.bpf_cpu.specs.declared.cpu.Cpu.{Cpu}
use Rattle.bpf_cpu.specs.declared.outcome.Progress.{Progress}
use Rattle.bpf_cpu.specs.Step.{Step}
use Rattle.bpf_cpu.specs.Task.{Task, InHand}
use Rattle.bpf_machine.specs.declared.machine.Stand.{Stand}
use Rattle.bpf_machine.specs.declared.machine.Turn.{Turn}
use Rattle.bpf_machine.specs.Hands.{IsAt}
use Rattle.bpf_machine.specs.Schedule.{World, RunsSchedule, TakesTurn}
use Rattle.bpf_machine.specs.Rounds.{HaveEnded}
use Rattle.bpf_machine.specs.Laws.{IsFresh}
use Rattle.bpf_machine.specs.Headways.{with_jobs}
use Rattle.bpf_machine.specs.Patient.{AsRich, NoneRanOut}
use Rattle.bpf_machine.specs.Race.{IsRace}
use Rattle.bpf_x86.specs.Machine.{X86, Move, RunsMoves, drained}

-- machines that count: all; or, where one is patient, those in which no job is out of budget
abbrev pub Counts : Bool → List Task → Type 0
Counts false jobs = Unit {0}
Counts true jobs = NoneRanOut jobs

-- no schedule leads to a data race
abbrev pub IsRaceFree : Bool → World → Type 0
IsRaceFree patient w = (schedule : List ℕ) (z : World) → RunsSchedule w schedule z
    → Counts patient z.jobs → (one other : Stand) (b : ℕ) → IsRace z one other b → ⊥

-- what x86 reaches where all jobs have ended, sequential consistency reaches by a schedule
abbrev pub IsSameOnX86 : Bool → World → Type 0
IsSameOnX86 patient w = (moves : List Move) (z : X86) → RunsMoves (drained w) moves z
    → HaveEnded z.world.jobs → Counts patient z.world.jobs
    → (schedule : List ℕ) × RunsSchedule w schedule z.world

-- each outcome of sequential consistency is one of x86
abbrev pub OrdersAreX86s : Type 0
OrdersAreX86s = (w z : World) (schedule : List ℕ) → RunsSchedule w schedule z
    → (moves : List Move) × RunsMoves (drained w) moves (drained z)

-- a CPU whose job in hand has a step left can make it
abbrev pub CanStep : World → Type 0
CanStep w = (c j : ℕ) (task : Task) (state : Cpu) (left : ℕ)
    → IsAt w.jobs c j task (InHand state (suc left))
    → (program : Loaded) × (events : List Event) × (answer : Progress) × (new : Cpu) × (s : Plain)
    × (slice_get w.programs task.program ≡ Some program)
    × Step w.store.shape program state events answer new
    × PlainlyLegal w.store (map (entry c) events) s

-- so in each machine that schedules lead to
abbrev pub StepsAreThere : Bool → World → Type 0
StepsAreThere patient w = (schedule : List ℕ) (z : World) → RunsSchedule w schedule z
    → Counts patient z.jobs → CanStep z

-- the numbers of the first instruction fit their types, so its offset has 16 bits: from a context or a
-- frame it leads to no value, and a job begins with no access to one
abbrev pub FirstFits : Loaded → Type 0
FirstFits program = (i : Insn) → Begins program.instructions 0 i → Fits i

-- those of each program's
abbrev pub FirstsFit : List Loaded → Type 0
FirstsFit programs = (k : ℕ) (program : Loaded) → slice_get programs k ≡ Some program → FirstFits program

-- THE LAW: where no schedule leads to a data race, x86 adds nothing
abbrev pub RaceFreeIsSame : Type 0
RaceFreeIsSame = (patient : Bool) (w : World) → FirstsFit w.programs → IsFresh w
    → StepsAreThere patient w → IsRaceFree patient w → IsSameOnX86 patient w

-- each CPU has its next turn
abbrev pub HasTurns : World → Type 0
HasTurns w = (c : ℕ) → (answer : Turn) × (y : World) × TakesTurn w c answer y

-- so it has in all that schedules lead to; where one is patient, with richer jobs
abbrev pub TurnsAreThere : Bool → World → Type 0
TurnsAreThere false w = (schedule : List ℕ) (z : World) → RunsSchedule w schedule z → HasTurns z
TurnsAreThere true w = (schedule : List ℕ) (z : World) → RunsSchedule w schedule z → NoneRanOut z.jobs
    → (jobs : List Task) × AsRich z.jobs jobs × HasTurns (with_jobs z jobs)

-- the same where each CPU has its next turn
abbrev pub TurningRaceFreeIsSame : Type 0
TurningRaceFreeIsSame =
    (patient : Bool) (w : World) → FirstsFit w.programs → IsFresh w → TurnsAreThere patient w
    → IsRaceFree patient w → IsSameOnX86 patient w
