-- A machine's jobs, as they are listed.
use Rattle.std.specs.Prelude.{◌≡◌, ℕ, Bool, true, false, List, map, max, ◌==◌, ◌&&◌}
use Rattle.bpf_cpu.specs.declared.input.Input.{Input}
use Rattle.bpf_cpu.specs.declared.job.Job.{Job}
use Rattle.bpf_cpu.specs.State.{start}
use Rattle.bpf_cpu.specs.Task.{Stage, Task, Waiting, InHand, Ended}
use Rattle.bpf_machine.specs.declared.machine.parts.KeptStage.TheVariants as kept
use Rattle.bpf_machine.specs.Kept.{kept_stage}
use Rattle.bpf_machine.specs.Hands.{IsAt, NoneWaitsBelow}
use Rattle.bpf_buffering.specs.declared.jobs.Listed.{Listed}

abbrev pub task_of : Listed → Task
task_of x = record { cpu = x.cpu; program = x.program; budget = x.budget; stage = kept_stage x.stage }

abbrev pub tasks_of : List Listed → List Task
tasks_of jobs = map task_of jobs

-- a job at first
abbrev pub first_entry : Job → Listed
first_entry job = record {
  cpu = job.cpu;
  program = job.program;
  budget = job.budget;
  stage = kept.Waiting job.input;
}

abbrev pub in_hand : Stage → Bool
in_hand (Waiting input) = false
in_hand (InHand state left) = true
in_hand (Ended outcome) = false

abbrev pub waits : Stage → Bool
waits (Waiting input) = true
waits (InHand state left) = false
waits (Ended outcome) = false

-- whether it is this CPU's, and in hand, or waits
abbrev pub held_by : ℕ → Listed → Bool
held_by cpu x = (x.cpu == cpu) && in_hand (kept_stage x.stage)

abbrev pub waits_for : ℕ → Listed → Bool
waits_for cpu x = (x.cpu == cpu) && waits (kept_stage x.stage)

-- the stage of the job as it is taken in hand
abbrev pub IsTakenUp : Listed → Stage → Type 0
IsTakenUp x stage = (input : Input) → kept_stage x.stage ≡ Waiting input
    → stage ≡ InHand (start x.cpu input) x.budget

-- the stage with the whole budget left, or with what was left where that is more
abbrev pub filled_up : ℕ → Stage → Stage
filled_up budget (Waiting input) = Waiting input
filled_up budget (InHand state left) = InHand state (max left budget)
filled_up budget (Ended outcome) = Ended outcome

-- the CPU's lowest job that waits
abbrev pub IsLowest : List Task → ℕ → ℕ → Type 0
IsLowest jobs cpu j =
    ((task : Task) × (input : Input) × IsAt jobs cpu j task (Waiting input))
    × NoneWaitsBelow jobs cpu j
