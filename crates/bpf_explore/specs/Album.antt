-- Machines that a search keeps.
use Rattle.std.specs.Prelude.{◌≡◌, ℕ, ◌+◌, ◌<◌, ◌≤◌, All, List, ◌++◌, Some, None, drop, length, slice_get, slice_index_or}
use Rattle.bpf_shared.specs.Shape.{Shape}
use Rattle.bpf_plain.specs.PlainStore.{Contents, IsSavedAs}
use Rattle.bpf_loader.specs.Loaded.{Loaded}
use Rattle.bpf_cpu.specs.Task.{Task}
use Rattle.bpf_machine.specs.Laws.{IsFresh}
use Rattle.bpf_machine.specs.Schedule.{World, RunsSchedule}
use Rattle.bpf_machine.specs.Rounds.{HaveEnded}
use Rattle.bpf_machine.specs.Machine.{MachineState, Shows}
use Rattle.bpf_machine.specs.Parts.{CanStand, chosen}
use Rattle.bpf_machine.specs.Patient.{NoneRanOut, AreRefilled}
use Rattle.bpf_machine.specs.Ends.{RunsFreely}
use Rattle.bpf_alike.specs.Ends.{IsShownAlikeAt}
use Rattle.bpf_equal.specs.declared.peers.Peer.{Peer}
use Rattle.bpf_explore.specs.Stores.{IsOfShape, no_store}

-- stores of one shape and jobs of these programs, each under its number. A machine is kept as this many
-- numbers: its store's, and then each job's
pub record Stock : Type 0 where
  pub shape : Shape
  pub programs : List Loaded
  pub width : ℕ
  pub stores : List Contents
  pub parts : List Task

-- the machine is of this kind
pub record FitsStock (s : Stock) (m : MachineState) : Type 0 where
  pub shape : IsOfShape s.shape m.store
  pub programs : s.programs ≡ m.programs
  pub jobs : s.width ≡ length m.jobs + 1
  pub lists : m.lists ≡ None

-- more stores and jobs are after those that were there
pub record HasMore (old new : Stock) : Type 0 where
  pub shape : new.shape ≡ old.shape
  pub programs : new.programs ≡ old.programs
  pub width : new.width ≡ old.width
  pub stores : (more : List Contents) × (new.stores ≡ old.stores ++ more)
  pub parts : (more : List Task) × (new.parts ≡ old.parts ++ more)

-- the jobs have these numbers
abbrev pub AreNumbersOf : List Task → List ℕ → List Task → Type 0
AreNumbersOf parts numbers jobs =
    All (λ n. n < length parts) numbers × (chosen parts numbers ≡ jobs)

-- a store that is saved as the machine's is has the first of these numbers, and its jobs the others
pub record AreKeptUnder (stores : List Contents) (parts : List Task) (m : MachineState)
    (tuple : List ℕ) : Type 0 where
  pub stored : slice_index_or tuple 0 0 < length stores
  pub bytes : List ℕ
  pub saved : IsSavedAs m.store bytes
  pub alike : IsSavedAs (slice_index_or stores (slice_index_or tuple 0 0) no_store) bytes
  pub jobs : AreNumbersOf parts (drop 1 tuple) m.jobs
  pub size : length tuple ≡ length m.jobs + 1

-- the machine's store and jobs are there, under these numbers
pub record IsNumbered (s : Stock) (m : MachineState) (numbers : List ℕ) : Type 0 where
  pub fits : FitsStock s m
  pub stands : CanStand m
  pub under : AreKeptUnder s.stores s.parts m numbers

-- a machine to work with, the kept ones, how many CPUs their host has, and what they are kept as
pub record AlbumState : Type 0 where
  pub machine : MachineState
  pub kept : List MachineState
  pub cpus : ℕ
  pub stock : Stock

-- the same of a patient search but for what they are kept as, the turns that were made, in their order:
-- from which kept machine, and by which CPU; and which jobs are equal
pub record PatientState : Type 0 where
  pub machine : MachineState
  pub kept : List MachineState
  pub cpus : ℕ
  pub made : List (ℕ × ℕ)
  pub peers : List Peer

-- what is kept, and which jobs are equal
pub record PermutedState : Type 0 where
  pub found : AlbumState
  pub peers : List Peer

-- the first of them shows all that the machine shows
abbrev pub ShowsFirst : List MachineState → MachineState → Type 0
ShowsFirst kept m = (one : MachineState) × (slice_get kept 0 ≡ Some one)
    × ((w : World) → Shows m w → Shows one w)

-- the i-th kept machine shows the world
abbrev pub IsShownAt : List MachineState → ℕ → World → Type 0
IsShownAt kept i w = (m : MachineState) × (slice_get kept i ≡ Some m) × Shows m w

-- the first shows the world, which is before its first turn
abbrev pub BeginsAt : List MachineState → World → Type 0
BeginsAt kept w = IsFresh w × IsShownAt kept 0 w

-- all that the machine shows, the i-th kept machine shows, but for registers that are written before
-- they are read
abbrev pub IsKeptAlikeAt : List MachineState → ℕ → MachineState → Type 0
IsKeptAlikeAt kept i m = (w : World) → Shows m w → IsShownAlikeAt kept i w

-- no world is shown by two of them
abbrev pub AreApart : List MachineState → Type 0
AreApart kept = (i j : ℕ) (w : World) → IsShownAt kept i w → IsShownAt kept j w → i ≡ j

-- runs of this kind lead by the schedule from what the i-th shows to what the j-th shows
abbrev pub LeadsThrough : (World → List ℕ → World → Type 0) → List MachineState → ℕ → List ℕ → ℕ
    → Type 0
LeadsThrough runs kept i schedule j = (w : World) → IsShownAt kept i w
    → (z : World) × runs w schedule z × IsShownAt kept j z

-- the schedule leads from what the i-th shows to what the j-th shows
abbrev pub LeadsFrom : List MachineState → ℕ → List ℕ → ℕ → Type 0
LeadsFrom kept i schedule j = (w : World) → IsShownAt kept i w
    → (z : World) × RunsSchedule w schedule z × IsShownAt kept j z

-- so it does where jobs in hand may be given more steps on the way
abbrev pub LeadsFreely : List MachineState → ℕ → List ℕ → ℕ → Type 0
LeadsFreely kept i schedule j = LeadsThrough RunsFreely kept i schedule j

-- some schedule leads to each from the first, in runs of this kind
abbrev pub AreLedThrough : (World → List ℕ → World → Type 0) → List MachineState → Type 0
AreLedThrough runs kept =
    (i : ℕ) → i < length kept → (schedule : List ℕ) × LeadsThrough runs kept 0 schedule i

abbrev pub AreLed : List MachineState → Type 0
AreLed kept = AreLedThrough RunsSchedule kept

-- so it does where jobs are given steps
abbrev pub AreLedFreely : List MachineState → Type 0
AreLedFreely kept = AreLedThrough RunsFreely kept

-- each job of the i-th has an outcome
abbrev pub HaveEndedAt : List MachineState → ℕ → Type 0
HaveEndedAt kept i = (m : MachineState) → slice_get kept i ≡ Some m → HaveEnded m.jobs

-- none of its jobs has ended out of budget
abbrev pub NoneRanOutAt : List MachineState → ℕ → Type 0
NoneRanOutAt kept i = (m : MachineState) → slice_get kept i ≡ Some m → NoneRanOut m.jobs

-- each job of the kept machines has n steps in its budget
abbrev pub HaveBudgets : List MachineState → ℕ → Type 0
HaveBudgets kept least = (i j : ℕ) (m : MachineState) (task : Task) → slice_get kept i ≡ Some m
    → slice_get m.jobs j ≡ Some task → least ≤ task.budget

-- each job in hand of all kept machines has its whole budget left, where the first shows a machine
-- before its first turn
abbrev pub HaveWholeBudgets : List MachineState → Type 0
HaveWholeBudgets kept = (w : World) → IsFresh w → IsShownAt kept 0 w
    → (i : ℕ) (m : MachineState) → slice_get kept i ≡ Some m → AreRefilled m.jobs
