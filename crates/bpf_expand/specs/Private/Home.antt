-- The parts of an expander fit each other.
use Rattle.std.specs.Prelude.{◌≡◌, ℕ, Bool, true, ◌<◌, ◌++◌, All, IfSome, List, None, Option, length, slice_index_or}
use Rattle.bpf_shared.specs.Shape.{Shape}
use Rattle.bpf_plain.specs.PlainStore.{Contents, IsSavedAs}
use Rattle.bpf_loader.specs.Loaded.{Loaded}
use Rattle.bpf_cpu.specs.Input.{IsShort}
use Rattle.bpf_cpu.specs.Task.{Task}
use Rattle.bpf_machine.specs.Machine.{MachineState}
use Rattle.bpf_machine.specs.Parts.{CanStand, made_of}
use Rattle.bpf_machine.specs.Saved.{input_of, jobs_saved, AreLater, ComeFrom}
use Rattle.bpf_explore.specs.Stores.{IsOfShape}

-- the numbers below this one, in order
pub record CountUp (numbers : List ℕ) (n : ℕ) : Type 0 where
  pub count : length numbers ≡ n
  pub each : (k : ℕ) → k < n → slice_index_or numbers k 0 ≡ k

-- inputs that jobs may wait with
abbrev pub AreShort : List Task → Type 0
AreShort jobs = All (λ task. IsShort (input_of task.stage)) jobs

-- the store and these jobs are those of a state of such programs, which has these bytes
pub record IsRead (programs : List Loaded) (room : Contents) (first : List Task) (numbers : List ℕ)
    (jobs : List Task) (bytes : List ℕ) : Type 0 where
  pub later : AreLater first jobs
  pub stands : CanStand (made_of room programs jobs numbers)
  pub saved : (rest : List ℕ) × IsSavedAs room rest × (bytes ≡ jobs_saved jobs ++ rest)

-- a machine and a store of this shape, the jobs that wait at first, and a number for each; as many
-- jobs, which are those of the state that was read; and where it is so, the machine of that state
pub record IsHome (h : Shape) (m : MachineState) (room : Contents) (first : List Task)
    (numbers : List ℕ) (jobs : List Task) (last : Option (List ℕ)) (is_placed : Bool) : Type 0 where
  pub shape : IsOfShape h m.store
  pub spare : IsOfShape h room
  pub lists : m.lists ≡ None
  pub short : AreShort first
  pub come : ComeFrom first m.jobs
  pub numbered : CountUp numbers (length first)
  pub count : length jobs ≡ length first
  pub read : IfSome last (IsRead m.programs room first numbers jobs)
  pub placed : is_placed ≡ true → m ≡ made_of room m.programs jobs numbers
