-- Lists of machines that cover schedules but for how many steps are left of budgets.
use Rattle.std.specs.Prelude.{◌≡◌, ℕ, ◌+◌, List, [], ◌∷◌, ◌⊎◌, Some, max, slice_get}
use Rattle.bpf_cpu.specs.declared.cpu.Cpu.{Cpu}
use Rattle.bpf_cpu.specs.declared.outcome.Outcome.TheVariants.{OutOfBudget}
use Rattle.bpf_cpu.specs.Task.{Task, InHand, Ended}
use Rattle.bpf_machine.specs.Hands.{IsAt, IsFree, with_stage}
use Rattle.bpf_machine.specs.Schedule.{World, RunsSchedule}
use Rattle.bpf_machine.specs.Rounds.{HaveEnded}
use Rattle.bpf_machine.specs.Machine.{MachineState, Shows}
use Rattle.bpf_machine.specs.Laws.{IsFresh}
use Rattle.bpf_machine.specs.Headways.{with_jobs}
use Rattle.bpf_machine.specs.Cover.{TurnsTo, IsShown, IsCovered}
use Rattle.bpf_machine.specs.declared.machine.Stand.{Stand}
use Rattle.bpf_machine.specs.Race.{IsRace, IsRaceKept}

-- no job has ended out of budget
abbrev pub NoneRanOut : List Task → Type 0
NoneRanOut jobs = (j : ℕ) (task : Task) (pc : ℕ) → slice_get jobs j ≡ Some task
    → task.stage ≡ Ended (OutOfBudget pc) → ⊥

-- the same job, or one that is in hand with at least as many steps left
abbrev pub IsRicher : Task → Task → Type 0
IsRicher old new =
    (new ≡ old)
    ⊎ ((state : Cpu) × (left : ℕ) × (more : ℕ) × (old.stage ≡ InHand state left)
    × (new ≡ record old { stage = InHand state (left + more) }))

-- each of the jobs is
abbrev pub AsRich : List Task → List Task → Type 0
AsRich [] [] = Unit {0}
AsRich [] (new ∷ news) = ⊥
AsRich (old ∷ olds) [] = ⊥
AsRich (old ∷ olds) (new ∷ news) = IsRicher old new × AsRich olds news

-- the j-th job, in the CPU's hand, has its whole budget left, or what it had where that is more
abbrev pub Refills : MachineState → ℕ → ℕ → MachineState → Type 0
Refills old c j new =
    (task : Task) × (state : Cpu) × (left : ℕ) × (more : ℕ)
    × IsAt old.jobs c j task (InHand state left) × (left + more ≡ max left task.budget)
    × (new ≡ record old { jobs = with_stage old.jobs j task (InHand state (left + more)) })

-- so has the job that the CPU has in hand, if it has one
abbrev pub IsRefilled : MachineState → ℕ → MachineState → Type 0
IsRefilled old c new =
    (IsFree old.jobs c × (new ≡ old)) ⊎ ((j : ℕ) × Refills old c j new)

-- each job in hand has its whole budget left, and no more
abbrev pub AreRefilled : List Task → Type 0
AreRefilled jobs = (c j : ℕ) (task : Task) (state : Cpu) (left : ℕ)
    → IsAt jobs c j task (InHand state left) → left ≡ task.budget

-- a kept machine shows the world, but for richer jobs
abbrev pub IsShownRichly : List MachineState → World → Type 0
IsShownRichly kept w =
    (jobs : List Task) × AsRich w.jobs jobs × IsShown kept (with_jobs w jobs)

-- what the machine shows, a kept one shows, but for richer jobs
abbrev pub IsKeptRichly : List MachineState → MachineState → Type 0
IsKeptRichly kept m = (w : World) → Shows m w → IsShownRichly kept w

-- each CPU's turn from each kept machine leads to what a kept one shows, but for richer jobs
abbrev pub IsClosedRichly : List MachineState → Type 0
IsClosedRichly kept = (i : ℕ) (m : MachineState) (c : ℕ) → slice_get kept i ≡ Some m
    → (new : MachineState) × TurnsTo m c new × IsKeptRichly kept new

-- with richer jobs the world is covered
abbrev pub IsCoveredRichly : List MachineState → World → Type 0
IsCoveredRichly kept w =
    (jobs : List Task) × AsRich w.jobs jobs × IsCovered kept (with_jobs w jobs)

-- a list that is closed but for budgets, and shows a machine before its first turn, covers all that
-- schedules lead to while no job runs out of budget; and where no CPU has work left, it shows that
abbrev pub PatientSetsCover : Type 0
PatientSetsCover =
    (kept : List MachineState) (w z : World) (schedule : List ℕ) → IsClosedRichly kept → IsFresh w
    → IsShown kept w → RunsSchedule w schedule z → NoneRanOut z.jobs
    → IsCoveredRichly kept z × (HaveEnded z.jobs → IsShown kept z)

-- and each race that such a schedule leads to is one in what a kept machine shows
abbrev pub PatientRacesAreKept : Type 0
PatientRacesAreKept =
    (kept : List MachineState) (w z : World) (schedule : List ℕ) → IsClosedRichly kept → IsFresh w
    → IsShown kept w → RunsSchedule w schedule z → NoneRanOut z.jobs
    → (one other : Stand) (b : ℕ) → IsRace z one other b → IsRaceKept kept z one other b
