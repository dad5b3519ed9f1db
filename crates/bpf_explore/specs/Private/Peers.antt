-- Kept ends, in all places that equal CPUs may have.
use Rattle.std.specs.Prelude.{◌≡◌, ℕ, ◌<◌, List, Some, None, length, slice_get, slice_index_or}
use Rattle.bpf_cpu.specs.Task.{Task}
use Rattle.bpf_machine.specs.Cover.{IsShown}
use Rattle.bpf_machine.specs.Machine.{MachineState, Shows}
use Rattle.bpf_machine.specs.Parts.{CanStand}
use Rattle.bpf_machine.specs.Patient.{AreRefilled}
use Rattle.bpf_machine.specs.Schedule.{World}
use Rattle.bpf_alike.specs.Ends.{IsShownAlikeAt}
use Rattle.bpf_equal.specs.Covers.{ButForPlaces}
use Rattle.bpf_equal.specs.Groups.{AreEquallyFresh, AreJobsOf, ArePeers}
use Rattle.bpf_equal.specs.declared.peers.Peer.{Peer}
use Rattle.bpf_equal.specs.Peers.{AreOneGroup}
use Rattle.bpf_equal.specs.Permutations.{exchanged}
use Rattle.bpf_explore.specs.Album.{AlbumState, HasMore, Stock}
use Rattle.bpf_explore.specs.Search.{Extends}
use Rattle.bpf_explore.specs.Stores.{IsOfShape}
use Rattle.bpf_explore.specs.Private.Answers.{StartsFresh}

-- the numbers below this one, in order
pub record CountUp (numbers : List ℕ) (n : ℕ) : Type 0 where
  pub count : length numbers ≡ n
  pub each : (k : ℕ) → k < n → slice_index_or numbers k 0 ≡ k

-- each job is as far as the one that it changes places with
pub record AreExchanged (j k : ℕ) (old new : List Task) : Type 0 where
  pub many : length new ≡ length old
  pub each : (i : ℕ) (task other : Task) → slice_get old i ≡ Some task
      → slice_get old (exchanged j k i) ≡ Some other
      → slice_get new i ≡ Some (record task { stage = other.stage })

-- so is each of the machine's, which is the same else
pub record IsExchanged (j k : ℕ) (old new : MachineState) : Type 0 where
  pub store : new.store ≡ old.store
  pub programs : new.programs ≡ old.programs
  pub jobs : AreExchanged j k old.jobs new.jobs
  pub lists : new.lists ≡ None

-- both jobs are there
abbrev pub HasJobs : List MachineState → ℕ → ℕ → ℕ → Type 0
HasJobs kept i j k = (m : MachineState) → slice_get kept i ≡ Some m
    → (j < length m.jobs) × (k < length m.jobs)

-- a machine of the kind that is kept
pub record IsOfKind (stock : Stock) (m : MachineState) : Type 0 where
  pub stands : CanStand m
  pub shape : IsOfShape stock.shape m.store
  pub programs : stock.programs ≡ m.programs
  pub lists : m.lists ≡ None

-- each kept one is
abbrev pub AreOfKind : Stock → List MachineState → Type 0
AreOfKind stock kept = (i : ℕ) (m : MachineState) → slice_get kept i ≡ Some m → IsOfKind stock m

-- ---- what turns leave of jobs: their CPUs, programs and budgets
pub record AreStill (old new : List Task) : Type 0 where
  pub many : length new ≡ length old
  pub each : (i : ℕ) (task : Task) → slice_get new i ≡ Some task → (was : Task) × (slice_get old i ≡ Some was)
      × (task.cpu ≡ was.cpu) × (task.program ≡ was.program) × (task.budget ≡ was.budget)

-- ---- equal jobs
-- but for places of equal jobs and dead registers, all that the machine shows, the i-th kept one shows
abbrev pub IsKeptElsewhereAt : List Peer → List MachineState → ℕ → MachineState → Type 0
IsKeptElsewhereAt peers kept i m =
    (w : World) → Shows m w → ButForPlaces peers (IsShownAlikeAt kept i) w

-- these are the jobs of what is kept, and those of one group are equal in the first
pub record FitPeers (stock : Stock) (kept : List MachineState) (peers : List Peer) : Type 0 where
  pub are : ArePeers stock.shape stock.programs peers
  pub first : (j : ℕ) (one : Peer) (m : MachineState) → slice_get peers j ≡ Some one
      → slice_get kept 0 ≡ Some m → AreJobsOf peers m.jobs × AreEquallyFresh peers m.jobs

-- and the first is before its first turn
pub record CanExchange (stock : Stock) (kept : List MachineState) (peers : List Peer) : Type 0
  where
    pub fit : FitPeers stock kept peers
    pub fresh : StartsFresh kept

-- the i-th is kept with the ends of both jobs exchanged too
abbrev pub IsKeptExchanged : List MachineState → ℕ → ℕ → ℕ → Type 0
IsKeptExchanged kept i j k = (m : MachineState) → slice_get kept i ≡ Some m
    → (new : MachineState) × IsExchanged j k m new × ((w : World) → Shows new w → IsShown kept w)

-- so it is for each later job of the group of the j-th, below a number
abbrev pub IsKeptFrom : List Peer → List MachineState → ℕ → ℕ → ℕ → Type 0
IsKeptFrom peers kept i j below = (k : ℕ) (one other : Peer) → j < k → k < below
    → AreOneGroup peers j k one other → IsKeptExchanged kept i j k

-- and that for each j-th below a number
abbrev pub IsKeptAround : List Peer → List MachineState → ℕ → ℕ → Type 0
IsKeptAround peers kept i below = (j k : ℕ) (one other : Peer) → j < below → j < k
    → AreOneGroup peers j k one other → IsKeptExchanged kept i j k

-- each job in hand of each has its whole budget left
abbrev pub AreAllRefilled : List MachineState → Type 0
AreAllRefilled kept = (i : ℕ) (m : MachineState) → slice_get kept i ≡ Some m → AreRefilled m.jobs

-- more is kept, nothing of it is lost, and no job in hand that lacks steps is new
pub record HasGrown (old new : AlbumState) : Type 0 where
  pub kept : Extends old.kept new.kept
  pub stock : HasMore old.stock new.stock
  pub whole : AreAllRefilled old.kept → AreAllRefilled new.kept
