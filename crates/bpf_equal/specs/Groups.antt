-- Jobs that are peers: none can tell which of its group it is.
use Rattle.std.specs.Prelude.{◌≡◌, ◌≢◌, ℕ, ◌<◌, true, List, [], ◌∷◌, Some, length, slice_get}
use Rattle.bpf_shared.specs.Shape.{Shape}
use Rattle.bpf_shared.specs.Store.{never}
use Rattle.bpf_loader.specs.Loaded.{Loaded}
use Rattle.bpf_cpu.specs.Task.{Task}
use Rattle.bpf_machine.specs.Parts.{in_hand}
use Rattle.bpf_machine.specs.Schedule.{World}
use Rattle.bpf_equal.specs.Peers.{AreOneGroup, Peer}
use Rattle.bpf_equal.specs.Worlds.{AreOneStage, IsBlind}

-- each job is the only one of its CPU; where two are of one group, they have one program, which can't
-- tell them apart, and one budget, and no map holds their values
pub record ArePeers (h : Shape) (programs : List Loaded) (peers : List Peer) : Type 0 where
  pub inside : (j : ℕ) (one : Peer) → slice_get peers j ≡ Some one → one.cpu < h.cpus
  pub apart : (j k : ℕ) (one other : Peer) → slice_get peers j ≡ Some one
      → slice_get peers k ≡ Some other → one.cpu ≡ other.cpu → j ≡ k
  pub blind : (j k : ℕ) (one other : Peer) → AreOneGroup peers j k one other → j ≢ k
      → IsBlind h programs one.program
  pub program : (j k : ℕ) (one other : Peer) → AreOneGroup peers j k one other
      → other.program ≡ one.program
  pub budget : (j k : ℕ) (one other : Peer) → AreOneGroup peers j k one other
      → other.budget ≡ one.budget
  pub told : (j : ℕ) (one : Peer) → slice_get peers j ≡ Some one → one.blind ≡ true
      → IsBlind h programs one.program
  pub no_maps : (j : ℕ) (one : Peer) → slice_get peers j ≡ Some one → h.maps ≡ []

-- the job is of this CPU, program and budget
pub record IsJobOf (peer : Peer) (task : Task) : Type 0 where
  pub cpu : task.cpu ≡ peer.cpu
  pub program : task.program ≡ peer.program
  pub budget : task.budget ≡ peer.budget

-- each of the jobs is that of its peer
pub record AreJobsOf (peers : List Peer) (jobs : List Task) : Type 0 where
  pub many : length jobs ≡ length peers
  pub each : (j : ℕ) (peer : Peer) (task : Task) → slice_get peers j ≡ Some peer
      → slice_get jobs j ≡ Some task → IsJobOf peer task

-- jobs of one group wait, and get the same but for marks
abbrev pub AreEquallyFresh : List Peer → List Task → Type 0
AreEquallyFresh peers jobs = (j k : ℕ) (one other : Peer) (task later : Task)
    → AreOneGroup peers j k one other → slice_get jobs j ≡ Some task
    → slice_get jobs k ≡ Some later → AreOneStage task.stage later.stage

-- a world of such jobs: CPUs are in runs where their jobs are in hand, hold nothing, and list the same
pub record IsOfPeers (peers : List Peer) (w : World) : Type 0 where
  pub are : ArePeers w.store.shape w.programs peers
  pub jobs : AreJobsOf peers w.jobs
  pub running : (j : ℕ) (task : Task) → slice_get w.jobs j ≡ Some task
      → w.store.running task.cpu ≡ in_hand task.stage
  pub held : (c : ℕ) → w.store.held c ≡ never
  pub kept : (c : ℕ) → w.store.kept c ≡ never
  pub lists : (c d : ℕ) → w.lists c ≡ w.lists d

-- the jobs, with the stages of others
abbrev pub restaged : List Task → List Task → List Task
restaged [] others = []
restaged (task ∷ tasks) [] = []
restaged (task ∷ tasks) (other ∷ others) =
    record task { stage = other.stage } ∷ restaged tasks others
