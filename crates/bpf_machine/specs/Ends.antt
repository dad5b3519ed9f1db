-- Whether jobs can reach their ends, where they are given more steps on the way.
use Rattle.std.specs.Prelude.{◌≡◌, ℕ, List, [], ◌∷◌, Some, slice_get}
use Rattle.bpf_cpu.specs.Task.{Task}
use Rattle.bpf_machine.specs.declared.machine.Turn.{Turn}
use Rattle.bpf_machine.specs.Schedule.{World, TakesTurn, RunsSchedule}
use Rattle.bpf_machine.specs.Rounds.{HaveEnded}
use Rattle.bpf_machine.specs.Machine.{MachineState, Shows}
use Rattle.bpf_machine.specs.Laws.{IsFresh}
use Rattle.bpf_machine.specs.Headways.{with_jobs}
use Rattle.bpf_machine.specs.Patient.{NoneRanOut, AsRich}

-- the run of a schedule in which jobs in hand may be given more steps before each turn, and at last
abbrev pub RunsFreely : World → List ℕ → World → Type 0
RunsFreely w [] z = (jobs : List Task) × AsRich w.jobs jobs × (z ≡ with_jobs w jobs)
RunsFreely w (c ∷ cs) z =
    (jobs : List Task) × (answer : Turn) × (m : World) × AsRich w.jobs jobs
    × TakesTurn (with_jobs w jobs) c answer m × RunsFreely m cs z

-- some such run leads to a machine without work in which no job is out of budget
abbrev pub CanEnd : World → Type 0
CanEnd w = (schedule : List ℕ) × (z : World) × RunsFreely w schedule z × HaveEnded z.jobs
    × NoneRanOut z.jobs

-- none does, however many steps jobs are given: they wait for each other, or turn in a circle
abbrev pub IsHung : World → Type 0
IsHung w = CanEnd w → ⊥

-- ---- kept machines
-- the i-th kept machine shows the world, but for richer jobs
abbrev pub IsShownRichlyAt : List MachineState → ℕ → World → Type 0
IsShownRichlyAt kept i w = (jobs : List Task) × (m : MachineState) × AsRich w.jobs jobs
    × (slice_get kept i ≡ Some m) × Shows m (with_jobs w jobs)

-- one schedule leads to the same, but for richer jobs, as long as no job runs out of budget
abbrev pub FreeRunsAgree : Type 0
FreeRunsAgree =
    (w z y : World) (schedule : List ℕ) → IsFresh w → RunsSchedule w schedule z → NoneRanOut z.jobs
    → RunsFreely w schedule y → AsRich z.jobs y.jobs × (with_jobs z y.jobs ≡ y)
