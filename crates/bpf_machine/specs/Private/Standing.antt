-- When a store, programs and jobs fit each other, job by job.
use Rattle.std.specs.Prelude.{◌≡◌, ℕ, ◌<◌, ◌≤◌, true, false, List, Some, length, slice_get}
use Rattle.bpf_plain.specs.PlainStore.{Contents, has_cpu, is_running, held_spans}
use Rattle.bpf_loader.specs.Loaded.{Loaded}
use Rattle.bpf_helpers.specs.Held.{AreHeld}
use Rattle.bpf_cpu.specs.Input.{IsShort}
use Rattle.bpf_cpu.specs.declared.cpu.Cpu.{Cpu}
use Rattle.bpf_cpu.specs.Step.{IsReady}
use Rattle.bpf_cpu.specs.Task.{Stage, Task, Waiting, InHand, Ended}
use Rattle.bpf_machine.specs.Parts.{chosen_at}
use Rattle.bpf_machine.specs.Private.Parts.{in_hand, waits}

-- the job's CPU goes on with it from this state
pub record FitsState (store : Contents) (programs : List Loaded) (task : Task) (state : Cpu)
    : Type 0 where
  pub number : state.number ≡ task.cpu
  pub ready : (program : Loaded) → slice_get programs task.program ≡ Some program
      → IsReady program state
  pub held : AreHeld (held_spans store task.cpu) state.held
  pub runs : is_running store task.cpu ≡ true

abbrev pub FitsStage : Contents → List Loaded → Task → Stage → Type 0
FitsStage store programs task (Waiting input) = IsShort input
FitsStage store programs task (InHand state left) = FitsState store programs task state
FitsStage store programs task (Ended outcome) = Unit {0}

-- a store and programs have what a job wants, whatever other jobs there are
pub record FitsAlone (store : Contents) (programs : List Loaded) (task : Task) : Type 0 where
  pub served : has_cpu store task.cpu ≡ true
  pub loaded : task.program < length programs
  pub stage : FitsStage store programs task task.stage

-- a CPU has one job in hand at most, and after one that waits each waits
pub record Follows (first later : Task) : Type 0 where
  pub one : first.cpu ≡ later.cpu → in_hand first.stage ≡ true → in_hand later.stage ≡ false
  pub order : first.cpu ≡ later.cpu → waits first.stage ≡ true → waits later.stage ≡ true

-- so of all jobs with these numbers
pub record StandSo (store : Contents) (programs : List Loaded) (parts : List Task)
    (numbers : List ℕ) : Type 0 where
  pub alone : (k : ℕ) → k < length numbers
      → FitsAlone store programs (chosen_at parts numbers k)
  pub follow : (j k : ℕ) → j < k → k < length numbers
      → Follows (chosen_at parts numbers j) (chosen_at parts numbers k)
  -- a CPU with no job in hand is in no run
  pub idle : (c : ℕ) → ((k : ℕ) → k < length numbers → (chosen_at parts numbers k).cpu ≡ c
      → in_hand (chosen_at parts numbers k).stage ≡ false) → is_running store c ≡ false
