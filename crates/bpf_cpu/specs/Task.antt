-- Jobs in a list, and how far each is.
use Rattle.std.specs.Prelude.{ℕ, List, Option, Some, None, option_and_then, slice_get}
use Rattle.bpf_cpu.specs.declared.input.Input.{Input}
use Rattle.bpf_cpu.specs.declared.job.Job.{Job}
use Rattle.bpf_cpu.specs.declared.cpu.Cpu.{Cpu}
use Rattle.bpf_cpu.specs.declared.outcome.Outcome.{Outcome}

pub data Stage : Type 0 where
  -- it waits, with what it is given
  Waiting : Input → Stage
  -- it is in hand: the state of its CPU, and how many steps its budget has left
  InHand : Cpu → ℕ → Stage
  Ended : Outcome → Stage

-- a job: its CPU, the number of its program, its budget, and its stage, which alone ever changes
pub record Task : Type 0 where
  pub cpu : ℕ
  pub program : ℕ
  pub budget : ℕ
  pub stage : Stage

-- a job at first
abbrev pub waiting : Job → Task
waiting job = record {
  cpu = job.cpu;
  program = job.program;
  budget = job.budget;
  stage = Waiting job.input;
}

-- how the job has ended, if it has
abbrev pub ended : Stage → Option Outcome
ended (Waiting input) = None
ended (InHand state left) = None
ended (Ended outcome) = Some outcome

abbrev pub outcome_at : List Task → ℕ → Option Outcome
outcome_at jobs j = option_and_then (λ task. ended task.stage) (slice_get jobs j)
