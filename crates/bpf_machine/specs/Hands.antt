-- Which of the jobs a CPU has in hand, and which wait for it.
use Rattle.std.specs.Prelude.{◌≡◌, ◌≢◌, ℕ, ◌<◌, List, Some, slice_get, slice_set}
use Rattle.bpf_cpu.specs.declared.cpu.Cpu.{Cpu}
use Rattle.bpf_cpu.specs.declared.input.Input.{Input}
use Rattle.bpf_cpu.specs.Task.{Stage, Task, Waiting, InHand}

-- the j-th job is one of this CPU's, in this stage
pub record IsAt (jobs : List Task) (cpu j : ℕ) (task : Task) (stage : Stage) : Type 0 where
  pub listed : slice_get jobs j ≡ Some task
  pub of : task.cpu ≡ cpu
  pub at : task.stage ≡ stage

-- the CPU has no job in hand
abbrev pub IsFree : List Task → ℕ → Type 0
IsFree jobs cpu =
    (j : ℕ) (task : Task) (state : Cpu) (left : ℕ) → IsAt jobs cpu j task (InHand state left) → ⊥

-- no job of the CPU waits that has a lower number
abbrev pub NoneWaitsBelow : List Task → ℕ → ℕ → Type 0
NoneWaitsBelow jobs cpu j =
    (k : ℕ) (task : Task) (input : Input) → k < j → IsAt jobs cpu k task (Waiting input) → ⊥

-- no job of the CPU waits
abbrev pub NoneWaits : List Task → ℕ → Type 0
NoneWaits jobs cpu =
    (j : ℕ) (task : Task) (input : Input) → IsAt jobs cpu j task (Waiting input) → ⊥

-- some job of the CPU waits
abbrev pub SomeWaits : List Task → ℕ → Type 0
SomeWaits jobs cpu =
    (j : ℕ) × (task : Task) × (input : Input) × IsAt jobs cpu j task (Waiting input)

-- the jobs with the j-th in another stage
abbrev pub with_stage : List Task → ℕ → Task → Stage → List Task
with_stage jobs j task stage = slice_set jobs j (record task { stage = stage })

-- each job of another CPU is as it was
abbrev pub OthersStay : List Task → ℕ → List Task → Type 0
OthersStay old cpu new = (j : ℕ) (task : Task) → slice_get old j ≡ Some task → task.cpu ≢ cpu
    → slice_get new j ≡ Some task
