-- Machines that are made again of parts: a store, programs, and each job as it is.
use Rattle.std.specs.Prelude.{◌≡◌, ℕ, ◌<◌, ◌≤◌, Bool, true, false, List, Some, None, length, map, slice_get, slice_index_or}
use Rattle.bpf_plain.specs.PlainStore.{Contents, has_cpu, is_running, held_spans}
use Rattle.bpf_plain.specs.Alike.{IsSameShape}
use Rattle.bpf_loader.specs.Loaded.{Loaded}
use Rattle.bpf_helpers.specs.Held.{AreHeld}
use Rattle.bpf_cpu.specs.declared.cpu.Cpu.{Cpu}
use Rattle.bpf_cpu.specs.declared.input.Input.{Input}
use Rattle.bpf_cpu.specs.Input.{IsShort, no_input}
use Rattle.bpf_cpu.specs.Step.{IsReady}
use Rattle.bpf_cpu.specs.Task.{Stage, Task, Waiting, InHand, Ended}
use Rattle.bpf_machine.specs.Hands.{IsAt, IsFree}
use Rattle.bpf_machine.specs.Machine.{MachineState}
use Rattle.bpf_machine.specs.Work.{HasInHand}

-- a CPU with this state goes on with the job: it is at an instruction of the program, and holds
-- what the store says that its run holds
pub record FitsHand (m : MachineState) (c : ℕ) (task : Task) (state : Cpu) : Type 0 where
  pub number : state.number ≡ c
  pub program : Loaded
  pub loaded : slice_get m.programs task.program ≡ Some program
  pub ready : IsReady program state
  pub held : AreHeld (held_spans m.store c) state.held
  pub runs : is_running m.store c ≡ true

-- a store, programs and jobs that fit each other, as those of each machine do
pub record CanStand (m : MachineState) : Type 0 where
  pub served : (j : ℕ) (task : Task) → slice_get m.jobs j ≡ Some task
      → has_cpu m.store task.cpu ≡ true
  pub loaded : (j : ℕ) (task : Task) → slice_get m.jobs j ≡ Some task
      → task.program < length m.programs
  pub short : (c j : ℕ) (task : Task) (input : Input) → IsAt m.jobs c j task (Waiting input)
      → IsShort input
  pub hand : (c j : ℕ) (task : Task) (state : Cpu) (left : ℕ)
      → IsAt m.jobs c j task (InHand state left) → FitsHand m c task state
  pub one : (c j k : ℕ) → HasInHand m.jobs c j → HasInHand m.jobs c k → j ≡ k
  pub idle : (c : ℕ) → IsFree m.jobs c → is_running m.store c ≡ false
  -- after a job that waits all of its CPU wait
  pub order : (c j k : ℕ) (task later : Task) (input : Input)
      → IsAt m.jobs c j task (Waiting input) → j < k → slice_get m.jobs k ≡ Some later
      → later.cpu ≡ c → (more : Input) × (later.stage ≡ Waiting more)

-- a job in this stage is in its CPU's hand
abbrev pub in_hand : Stage → Bool
in_hand (Waiting input) = false
in_hand (InHand state left) = true
in_hand (Ended outcome) = false

-- ---- jobs by numbers
abbrev pub no_task : Task
no_task = record { cpu = 0; program = 0; budget = 0; stage = Waiting no_input }

-- the job of the k-th number
abbrev pub chosen_at : List Task → List ℕ → ℕ → Task
chosen_at parts numbers k = slice_index_or parts (slice_index_or numbers k 0) no_task

-- the jobs of these numbers
abbrev pub chosen : List Task → List ℕ → List Task
chosen parts numbers = map (λ n. slice_index_or parts n no_task) numbers

-- the machine of a store and these jobs, which lists no keys
abbrev pub made_of : Contents → List Loaded → List Task → List ℕ → MachineState
made_of store programs parts numbers =
    record { store = store; programs = programs; jobs = chosen parts numbers; lists = None }

-- the same programs, as many jobs, a store of the same shape, and no lists where there were none
pub record IsSameHost (old new : MachineState) : Type 0 where
  pub programs : new.programs ≡ old.programs
  pub jobs : length new.jobs ≡ length old.jobs
  pub shape : IsSameShape old.store new.store
  pub lists : old.lists ≡ None → new.lists ≡ None
