-- What a search keeps of machines: stores and jobs once, and of each machine their numbers.
pub use Rattle.bpf_explore.specs.Album.{AlbumState, AreKeptUnder, AreNumbersOf, ShowsFirst, Stock}
use Rattle.std.specs.Prelude.{◌≡◌, ◌≢◌, ℕ, zero, suc, ◌+◌, ◌<◌, ◌⊎◌, All, List, [], ◌∷◌, ◌++◌, Option, Some, None, length, drop, slice_get, slice_index_or}
use Rattle.bpf_shared.specs.Shape.{Shape}
use Rattle.bpf_plain.specs.PlainStore.{Contents}
use Rattle.bpf_loader.specs.Loaded.{Loaded}
use Rattle.bpf_cpu.specs.declared.outcome.Outcome.{Outcome}
use Rattle.bpf_cpu.specs.Task.{Task, Ended}
use Rattle.bpf_machine.specs.Schedule.{World}
use Rattle.bpf_machine.specs.Hands.{OthersStay}
use Rattle.bpf_machine.specs.Machine.{MachineState, Shows}
use Rattle.bpf_machine.specs.Parts.{CanStand, made_of, no_task}
use Rattle.bpf_explore.specs.declared.album.Turned.{Turned}
use Rattle.bpf_explore.specs.Stores.{IsOfShape, no_store}
use Rattle.bpf_explore.specs.Tuples.{TupleList, tuple_at, AreWhole}

-- what is kept. A state is a tuple of numbers: the store's, and then each job's
pub record Shelf : Type 0 where
  pub programs : List Loaded
  pub stores : List Contents
  pub parts : List Task
  pub states : TupleList

-- what is kept but for the states, of this shape
abbrev pub stocked : Shape → Shelf → Stock
stocked h s = record {
  shape = h;
  programs = s.programs;
  width = s.states.width;
  stores = s.stores;
  parts = s.parts;
}

-- the machine of these numbers
abbrev pub machine_of : Shelf → List ℕ → MachineState
machine_of s tuple =
    made_of (slice_index_or s.stores (slice_index_or tuple 0 0) no_store) s.programs s.parts
    (drop 1 tuple)

abbrev pub machine_at : Shelf → ℕ → MachineState
machine_at s i = machine_of s (tuple_at s.states i)

-- the machines of the first n states
abbrev pub machines : Shelf → ℕ → List MachineState
machines s zero = []
machines s (suc n) = machines s n ++ machine_at s n ∷ []

-- these numbers are those of a store and of jobs that fit each other
pub record IsState (s : Shelf) (tuple : List ℕ) : Type 0 where
  pub stored : slice_index_or tuple 0 0 < length s.stores
  pub within : All (λ n. n < length s.parts) (drop 1 tuple)
  pub stands : CanStand (machine_of s tuple)

-- each store has this shape, and each state is one
pub record IsShelf (h : Shape) (s : Shelf) : Type 0 where
  pub whole : AreWhole s.states
  pub shapes : (n : ℕ) → n < length s.stores → IsOfShape h (slice_index_or s.stores n no_store)
  pub states : (i : ℕ) → i < s.states.count → IsState s (tuple_at s.states i)

-- nothing that was kept is lost, and at most one store and one state is new
pub record Grows (old new : Shelf) (store : Contents) : Type 0 where
  pub programs : new.programs ≡ old.programs
  pub stores : (new.stores ≡ old.stores) ⊎ (new.stores ≡ old.stores ++ store ∷ [])
  pub parts : (more : List Task) × (new.parts ≡ old.parts ++ more)

-- the job has this number
abbrev pub IsNumberOf : List Task → ℕ → List Task → ℕ → Type 0
IsNumberOf parts n jobs j =
    (n < length parts) × (slice_get jobs j ≡ Some (slice_index_or parts n no_task))

-- the job of each of these numbers is the machine's in its place, if it isn't the CPU's
abbrev pub AreOthers : List Task → List ℕ → ℕ → List Task → Type 0
AreOthers parts numbers c jobs = (j n : ℕ) → slice_get numbers j ≡ Some n → (n < length parts)
    × ((slice_index_or parts n no_task).cpu ≢ c → slice_get jobs j ≡ Some (slice_index_or parts n no_task))

-- the jobs come by the turn of a CPU from a kept machine, if it is known from which
abbrev pub CameBy : List MachineState → Option Turned → List Task → Type 0
CameBy kept None jobs = Unit {0}
CameBy kept (Some t) jobs =
    (m : MachineState) × (slice_get kept t.place ≡ Some m) × OthersStay m.jobs t.cpu jobs

-- these are the CPU and the numbers of the jobs from which it made its turn; none where that isn't known
abbrev pub IsRecalled : TupleList → Option Turned → List ℕ → ℕ → Type 0
IsRecalled states None numbers c = numbers ≡ []
IsRecalled states (Some t) numbers c = (numbers ≡ drop 1 (tuple_at states t.place)) × (c ≡ t.cpu)

-- at most one more is kept, which shows all that the machine shows
abbrev pub AddsOne : List MachineState → MachineState → List MachineState → Type 0
AddsOne old m new = (new ≡ old)
    ⊎ ((one : MachineState) × (new ≡ old ++ one ∷ []) × ((w : World) → Shows m w → Shows one w))

-- the machine fits what is kept
pub record FitsShelf (h : Shape) (s : Shelf) (m : MachineState) : Type 0 where
  pub shape : IsOfShape h m.store
  pub programs : s.programs ≡ m.programs
  pub width : s.states.width ≡ length m.jobs + 1
  pub lists : m.lists ≡ None

-- a job of the CPU has ended
abbrev pub HasEndedOn : ℕ → Task → Type 0
HasEndedOn c task = task.cpu ≡ c → (outcome : Outcome) × (task.stage ≡ Ended outcome)
