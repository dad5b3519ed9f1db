-- What is looked at to find jobs that are equal.
use Rattle.std.specs.Prelude.{◌≡◌, ◌≢◌, ℕ, ◌<◌, true, List, [], Some, length, slice_get}
use Rattle.bpf_shared.specs.Shape.{Shape}
use Rattle.bpf_loader.specs.Loaded.{Loaded}
use Rattle.bpf_cpu.specs.Task.{Task}
use Rattle.bpf_equal.specs.Groups.{IsJobOf}
use Rattle.bpf_equal.specs.Peers.{Peer}
use Rattle.bpf_equal.specs.Worlds.{AreOneStage, IsBlind}

-- a job, of a host without maps, and what is noted of it
pub record IsPeerOf (h : Shape) (programs : List Loaded) (task : Task) (peer : Peer) : Type 0 where
  pub inside : peer.cpu < h.cpus
  pub no_maps : h.maps ≡ []
  pub job : IsJobOf peer task
  pub told : peer.blind ≡ true → IsBlind h programs peer.program

-- the jobs are equal, but for marks
pub record AreEqualJobs (task later : Task) (one other : Peer) : Type 0 where
  pub blind : one.blind ≡ true
  pub program : other.program ≡ one.program
  pub budget : other.budget ≡ one.budget
  pub stage : AreOneStage task.stage later.stage

-- they have CPUs of their own, and are equal where they are of one group
pub record ArePair (task later : Task) (one other : Peer) : Type 0 where
  pub apart : one.cpu ≢ other.cpu
  pub equal : other.group ≡ one.group → AreEqualJobs task later one other

-- so are the jobs of two places
abbrev pub IsPairAt : List Task → List Peer → ℕ → ℕ → Type 0
IsPairAt jobs peers j k = (task later : Task) (one other : Peer) → slice_get jobs j ≡ Some task
    → slice_get jobs k ≡ Some later → slice_get peers j ≡ Some one → slice_get peers k ≡ Some other
    → ArePair task later one other

-- a job is as it is noted, and it and each other are a pair
abbrev pub IsFoundAt : Shape → List Loaded → List Task → List Peer → ℕ → Type 0
IsFoundAt h programs jobs peers j =
    ((task : Task) (peer : Peer) → slice_get jobs j ≡ Some task → slice_get peers j ≡ Some peer
    → IsPeerOf h programs task peer)
    × ((k : ℕ) → k < length peers → j ≢ k → IsPairAt jobs peers j k)
