-- What turns lead to, where jobs have ended so and this store is left.
use Rattle.std.specs.Prelude.{◌≡◌, ℕ, List, Some, length, slice_get}
use Rattle.bpf_shared.specs.Store.{Plain}
use Rattle.bpf_cpu.specs.declared.outcome.Outcome.{Outcome}
use Rattle.bpf_cpu.specs.Task.{Task, Ended}
use Rattle.bpf_machine.specs.Schedule.{World, RunsSchedule}

-- a schedule leads to a machine in which each of these jobs has ended so, and which has this store
pub record LeadsToo (w : World) (tasks : List Task) (ends : List Outcome) (last : Plain) : Type 0
  where
    pub schedule : List ℕ
    pub world : World
    pub runs : RunsSchedule w schedule world
    pub store : world.store ≡ last
    pub size : length world.jobs ≡ length tasks
    pub each : (k : ℕ) (task : Task) → slice_get tasks k ≡ Some task
        → (end : Outcome) × (slice_get ends k ≡ Some end)
        × (slice_get world.jobs k ≡ Some (record task { stage = Ended end }))
