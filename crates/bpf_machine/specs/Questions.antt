-- What a machine says of its CPUs, and how far its jobs are from their ends.
use Rattle.std.specs.Prelude.{◌≡◌, ℕ, ◌+◌, ◌<◌, List, length}
use Rattle.std.specs.List.{sum_by}
use Rattle.bpf_machine.specs.declared.machine.Turn.{Turn}
use Rattle.bpf_machine.specs.declared.machine.Turn.TheVariants as turn
use Rattle.bpf_machine.specs.declared.machine.Standing.{Standing}
use Rattle.bpf_machine.specs.declared.machine.Standing.TheVariants as standing
use Rattle.bpf_cpu.specs.Task.{Stage, Task, Waiting, InHand, Ended}
use Rattle.bpf_machine.specs.Hands.{IsAt, IsFree, NoneWaits}
use Rattle.bpf_machine.specs.Schedule.{World, TakesTurn}
use Rattle.bpf_machine.specs.Work.{IsNext}

-- the job that the CPU has in hand, and its state; or the job that it is to begin; or no work
abbrev pub IsStanding : List Task → ℕ → Standing → Type 0
IsStanding jobs cpu (standing.InHand j state) =
    (task : Task) × (left : ℕ) × IsAt jobs cpu j task (InHand state.now left)
IsStanding jobs cpu (standing.Waiting j) = IsNext jobs cpu j
IsStanding jobs cpu standing.Idle = IsFree jobs cpu × NoneWaits jobs cpu

-- ---- turns that are left

-- how many turns a job may still take
abbrev pub turns_before_end : ℕ → Stage → ℕ
turns_before_end budget (Waiting input) = budget + 1
turns_before_end budget (InHand state left) = left + 1
turns_before_end budget (Ended outcome) = 0

abbrev pub turns_left : List Task → ℕ
turns_left jobs = sum_by (λ task. turns_before_end task.budget task.stage) jobs

-- how many jobs haven't ended
abbrev pub open_in : Stage → ℕ
open_in (Waiting input) = 1
open_in (InHand state left) = 1
open_in (Ended outcome) = 0

abbrev pub open_jobs : List Task → ℕ
open_jobs jobs = sum_by (λ task. open_in task.stage) jobs

-- what a turn takes of both
abbrev pub Falls : Turn → List Task → List Task → Type 0
Falls turn.Idle old new = new ≡ old
Falls turn.Ran old new = (turns_left new < turns_left old) × (open_jobs new ≡ open_jobs old)
Falls (turn.Ended j end) old new =
    (turns_left new < turns_left old) × (open_jobs new + 1 ≡ open_jobs old)

-- each turn with work leaves fewer turns, and one that ends a job one job less
abbrev pub TurnsFall : Type 0
TurnsFall =
    (w z : World) (cpu : ℕ) (answer : Turn) → TakesTurn w cpu answer z → Falls answer w.jobs z.jobs
    × (length z.jobs ≡ length w.jobs) × (z.programs ≡ w.programs)
