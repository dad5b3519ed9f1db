-- What follows from the definitions of turns and schedules: on one thread they have one course; and
-- from those of what is saved.
use Rattle.std.specs.Prelude.{◌≡◌, ℕ, List, ◌++◌, Some, slice_get}
use Rattle.bpf_shared.specs.Sound.{IsSoundStore}
use Rattle.bpf_cpu.specs.Input.{IsShort}
use Rattle.bpf_cpu.specs.declared.input.Input.{Input}
use Rattle.bpf_cpu.specs.Task.{Stage, Task, Waiting}
use Rattle.bpf_machine.specs.Schedule.{World, RunsSchedule}
use Rattle.bpf_machine.specs.Rounds.{RunsBy, RunsToEnd}
use Rattle.bpf_machine.specs.Saved.{IsSavableStage, stage_saved}
use Rattle.bpf_machine.specs.Happenings.{Happening, RunsByWith}

-- a plain machine before its first turn: each job waits, with a context of at most 4,096 bytes
pub record IsFresh (w : World) : Type 0 where
  pub store : IsSoundStore w.store
  pub waits : (j : ℕ) (task : Task) → slice_get w.jobs j ≡ Some task
      → (input : Input) × (task.stage ≡ Waiting input) × (IsShort input)

-- a schedule has one run
abbrev pub SchedulesAreDetermined : Type 0
SchedulesAreDetermined =
    (w y z : World) (schedule : List ℕ) → IsFresh w
    → RunsSchedule w schedule y → RunsSchedule w schedule z → y ≡ z

-- so have rounds: one last machine is left
abbrev pub RoundsAreDetermined : Type 0
RoundsAreDetermined = (w y z : World) → IsFresh w → RunsToEnd w y → RunsToEnd w z → y ≡ z

-- and so have rounds after a schedule
abbrev pub RunsByAreDetermined : Type 0
RunsByAreDetermined =
    (w y z : World) (schedule : List ℕ) → IsFresh w
    → RunsBy w schedule y → RunsBy w schedule z → y ≡ z

-- and so has what happens in them
abbrev pub HappeningsAreDetermined : Type 0
HappeningsAreDetermined =
    (w y z : World) (schedule : List ℕ) (log other : List Happening) → IsFresh w
    → RunsByWith w schedule log y → RunsByWith w schedule other z → (log ≡ other) × (y ≡ z)

-- what a stage is saved as determines it, of a job whose CPU and input are known, and where it ends
abbrev pub SavedTellsStages : Type 0
SavedTellsStages =
    (cpu : ℕ) (input : Input) (stage other : Stage) (rest more : List ℕ)
    → IsSavableStage cpu input stage → IsSavableStage cpu input other
    → stage_saved stage ++ rest ≡ stage_saved other ++ more
    → (stage ≡ other) × (rest ≡ more)
