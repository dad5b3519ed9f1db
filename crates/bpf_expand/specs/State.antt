-- The states of a host, each as bytes.
use Rattle.std.specs.Prelude.{◌≡◌, ◌<◌, ℕ, Bool, false, true, ◌++◌, ◌⊎◌, All, List, None, Option, Some, slice_get}
use Rattle.bpf_shared.specs.Shape.{Shape}
use Rattle.bpf_shared.specs.Store.{Plain}
use Rattle.bpf_shared.specs.Sound.{IsSoundStore}
use Rattle.bpf_names.specs.Names.{Names}
use Rattle.bpf_plain.specs.PlainStore.{IsSavedAs, StandsFor}
use Rattle.bpf_jobs.specs.Printed.{Tells}
use Rattle.bpf_loader.specs.Loaded.{Loaded}
use Rattle.bpf_cpu.specs.declared.input.Input.{Input}
use Rattle.bpf_cpu.specs.Task.{Task, Waiting}
use Rattle.bpf_machine.specs.Hands.{IsFree, NoneWaits}
use Rattle.bpf_machine.specs.Machine.{MachineState}
use Rattle.bpf_machine.specs.Parts.{CanStand}
use Rattle.bpf_machine.specs.Work.{HasInHand, IsNext}
use Rattle.bpf_machine.specs.Patient.{IsRefilled}
use Rattle.bpf_machine.specs.Cover.{TurnsAhead}
use Rattle.bpf_machine.specs.Saved.{jobs_saved, AreLater, HoldWhatMayBe}
use Rattle.bpf_explore.specs.Stores.{IsOfShape}
use Rattle.bpf_expand.specs.declared.successor.Successor.{Successor}

-- what all of its machines have: the maps, arrays and CPUs of their stores, their programs, and their jobs
-- as these wait at first; and whether how many steps are left of budgets is passed over
pub record Host : Type 0 where
  pub shape : Shape
  pub programs : List Loaded
  pub jobs : List Task
  pub patient : Bool

-- a host, and a machine of it to work with; and the bytes that were read last, if they were a state
pub record ExpanderState : Type 0 where
  pub host : Host
  pub machine : MachineState
  pub read : Option (List ℕ)

-- each of the jobs waits
abbrev pub AllWait : List Task → Type 0
AllWait jobs = (j : ℕ) (task : Task) → slice_get jobs j ≡ Some task
    → (input : Input) × (task.stage ≡ Waiting input)

-- a machine of the host, whose runs hold what a run may hold, and which asks for no lists
pub record IsOf (h : Host) (m : MachineState) : Type 0 where
  pub shape : IsOfShape h.shape m.store
  pub programs : m.programs ≡ h.programs
  pub jobs : AreLater h.jobs m.jobs
  pub held : HoldWhatMayBe m.jobs
  pub lists : m.lists ≡ None
  pub stands : CanStand m

-- the machine is saved as these bytes: those of its jobs, and then those of its store
abbrev pub IsSavedState : MachineState → List ℕ → Type 0
IsSavedState m bytes =
    (store : List ℕ) × IsSavedAs m.store store × (bytes ≡ jobs_saved m.jobs ++ store)

-- a machine of the host is saved as these bytes
pub record IsStateOf (h : Host) (m : MachineState) (bytes : List ℕ) : Type 0 where
  pub of : IsOf h m
  pub saved : IsSavedState m bytes

-- the CPU has no work in a machine that is saved so
abbrev pub IsIdleIn : Host → List ℕ → ℕ → Type 0
IsIdleIn h bytes c =
    (m : MachineState) × IsStateOf h m bytes × IsFree m.jobs c × NoneWaits m.jobs c

-- the CPU has a job in hand, or its next one waits
abbrev pub HasWork : MachineState → ℕ → Type 0
HasWork m c = (j : ℕ) × (HasInHand m.jobs c j ⊎ IsNext m.jobs c j)

abbrev pub HasWorkIn : Host → List ℕ → ℕ → Type 0
HasWorkIn h bytes c = (m : MachineState) × IsStateOf h m bytes × HasWork m c

-- where budgets are passed over, the job in the CPU's hand has its whole one back
abbrev pub Fills : (patient : Bool) → MachineState → ℕ → MachineState → Type 0
Fills false old c new = new ≡ old
Fills true old c new = IsRefilled old c new

-- the CPU's turn, and n of its turns after it that no store sees
abbrev pub Leads : Host → MachineState → ℕ → ℕ → MachineState → Type 0
Leads h old c n new = (mid : MachineState) × TurnsAhead old c n mid × Fills h.patient mid c new

-- they lead from a machine that is saved as the first bytes to one that is saved as the others
abbrev pub IsSuccessor : Host → List ℕ → ℕ → ℕ → List ℕ → Type 0
IsSuccessor h bytes c n next =
    (m new : MachineState) × IsStateOf h m bytes × Leads h m c n new × IsStateOf h new next

-- no machine of the host is saved so
abbrev pub IsNoState : Host → List ℕ → Type 0
IsNoState h bytes = (m : MachineState) → IsStateOf h m bytes → ⊥

-- this is printed of the machine's jobs, maps and arrays, which have these names, whatever its store
-- stands for
abbrev pub IsTold : MachineState → Names → List ℕ → Type 0
IsTold m names text = (stopped : Bool) × ((s : Plain) → IsSoundStore s → StandsFor m.store s
    → Tells s m.jobs names true text stopped)

-- one of them is what the CPU's turns lead to
abbrev pub HasSuccessor : Host → List ℕ → List Successor → ℕ → Type 0
HasSuccessor h bytes found c = (i : ℕ) × (s : Successor) × (slice_get found i ≡ Some s)
    × (s.cpu ≡ c) × IsSuccessor h bytes c s.ahead s.bytes.items

-- each is what the turns of a CPU with work lead to, by rising CPU, and none is left out of a CPU
-- that has work
pub record AreSuccessors (h : Host) (bytes : List ℕ) (found : List Successor) : Type 0 where
  pub each : All (λ s. IsSuccessor h bytes s.cpu s.ahead s.bytes.items) found
  pub work : All (λ s. HasWorkIn h bytes s.cpu) found
  pub rising : (i j : ℕ) (s later : Successor) → i < j → slice_get found i ≡ Some s
      → slice_get found j ≡ Some later → s.cpu < later.cpu
  pub all : (c : ℕ) → IsIdleIn h bytes c ⊎ HasSuccessor h bytes found c
