-- Whether some schedule uses a budget up.
use Rattle.std.specs.Prelude.{◌≡◌, ℕ, List, Some, slice_get, slice_index_or}
use Rattle.bpf_cpu.specs.declared.outcome.Outcome.TheVariants.{OutOfBudget}
use Rattle.bpf_cpu.specs.Task.{Task, Ended}
use Rattle.bpf_machine.specs.Schedule.{World, RunsSchedule}

-- some schedule leads to a machine in which a job has ended out of budget
abbrev pub MayRunOut : World → Type 0
MayRunOut w = (schedule : List ℕ) × (z : World) × RunsSchedule w schedule z
    × ((j : ℕ) × (task : Task) × (pc : ℕ) × (slice_get z.jobs j ≡ Some task)
    × (task.stage ≡ Ended (OutOfBudget pc)))

-- ---- kept machines, each with a depth: no schedule leads there in which a job has made more steps
abbrev pub depth_at : List ℕ → ℕ → ℕ
depth_at depths i = slice_index_or depths i 0
