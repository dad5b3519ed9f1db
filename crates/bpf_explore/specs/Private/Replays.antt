-- Schedules that are tried from the first kept machine.
use Rattle.std.specs.Prelude.{◌≡◌, ℕ, List, Some, slice_get}
use Rattle.bpf_cpu.specs.declared.outcome.Outcome.TheVariants.{OutOfBudget}
use Rattle.bpf_cpu.specs.Task.{Task, Ended}
use Rattle.bpf_machine.specs.Schedule.{World, RunsSchedule}
use Rattle.bpf_machine.specs.Machine.{MachineState, Shows}
use Rattle.bpf_machine.specs.Budgets.{MayRunOut}
use Rattle.bpf_machine.specs.Laws.{IsFresh}
use Rattle.bpf_explore.specs.Private.Answers.{IsFirst}

-- some job has ended out of budget
abbrev pub SomeRanOut : List Task → Type 0
SomeRanOut jobs = (j : ℕ) × (task : Task) × (pc : ℕ) × (slice_get jobs j ≡ Some task)
    × (task.stage ≡ Ended (OutOfBudget pc))

-- the schedule leads there
abbrev pub IsReplayed : List MachineState → List ℕ → MachineState → Type 0
IsReplayed kept schedule m = (w : World) → IsFirst kept w
    → (z : World) × RunsSchedule w schedule z × Shows m z

-- some schedule does
abbrev pub IsReached : List MachineState → MachineState → Type 0
IsReached kept m = (w : World) → IsFirst kept w
    → (schedule : List ℕ) × (z : World) × RunsSchedule w schedule z × Shows m z

-- some schedule uses a budget up
abbrev pub CanRunOut : List MachineState → Type 0
CanRunOut kept = (w : World) → IsFirst kept w → MayRunOut w

-- none does
abbrev pub NoneRunsOut : List MachineState → Type 0
NoneRunsOut kept = (w : World) → IsFresh w → IsFirst kept w → MayRunOut w → ⊥
