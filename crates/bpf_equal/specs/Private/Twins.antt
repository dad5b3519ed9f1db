-- Jobs that are compared in any order of those that are equal, while they are.
use Rattle.std.specs.Prelude.{◌≡◌, ℕ, ◌<◌, ◌⊎◌, true, All, List, Some, length, slice_get, slice_index_or}
use Rattle.bpf_cpu.specs.Task.{Stage, Task}
use Rattle.bpf_live.specs.Live.{Table}
use Rattle.bpf_machine.specs.Headways.{with_jobs}
use Rattle.bpf_machine.specs.Parts.{chosen, in_hand, no_task}
use Rattle.bpf_machine.specs.Schedule.{World}
use Rattle.bpf_alike.specs.Worlds.{table_at}
use Rattle.bpf_equal.specs.Groups.{IsJobOf, IsOfPeers, restaged}
use Rattle.bpf_equal.specs.Peers.{AreOneGroup, Peer}
use Rattle.bpf_equal.specs.Twins.{IsLikeStage, IsLikeUnmarked}
use Rattle.bpf_equal.specs.Worlds.{ArePermuted}

abbrev pub part_at : List Task → ℕ → Task
part_at parts n = slice_index_or parts n no_task

-- the stages are like each other, or but for marks, which the program isn't told
abbrev pub IsAsFarAs : List Table → Peer → Stage → Stage → Type 0
IsAsFarAs tables peer moved other = IsLikeStage (table_at tables peer.program) moved other
    ⊎ ((peer.blind ≡ true) × IsLikeUnmarked (table_at tables peer.program) moved other)

-- the job of this number fits the other one in a place
abbrev pub FitsAt : List Table → List Peer → List Task → ℕ → ℕ → ℕ → Type 0
FitsAt tables peers parts place moved other = (peer : Peer) → slice_get peers place ≡ Some peer
    → IsJobOf peer (part_at parts other)
    × IsAsFarAs tables peer (part_at parts moved).stage (part_at parts other).stage

-- two places are of one group, and both jobs are in hand or neither is
abbrev pub MayExchange : List Peer → List Task → List ℕ → ℕ → ℕ → Type 0
MayExchange peers parts order j k = (one : Peer) × (other : Peer) × AreOneGroup peers j k one other
    × ((m n : ℕ) → slice_get order j ≡ Some m → slice_get order k ≡ Some n
    → in_hand (part_at parts m).stage ≡ in_hand (part_at parts n).stage)

-- worlds of the first order lead to those of this one, where CPUs are in runs as the jobs are in hand
pub record IsOrder (peers : List Peer) (parts : List Task) (first order : List ℕ) : Type 0 where
  pub many : length order ≡ length first
  pub within : All (λ n. n < length parts) order
  pub leads : (w : World) → w.jobs ≡ chosen parts first → IsOfPeers peers w
      → ArePermuted peers w (with_jobs w (restaged w.jobs (chosen parts order)))
  pub running : (w : World) → w.jobs ≡ chosen parts first → IsOfPeers peers w
      → (j n : ℕ) (task : Task) → slice_get order j ≡ Some n → slice_get w.jobs j ≡ Some task
      → w.store.running task.cpu ≡ in_hand (part_at parts n).stage

-- the first n jobs fit
abbrev pub AreSettled : List Table → List Peer → List Task → List ℕ → List ℕ → ℕ → Type 0
AreSettled tables peers parts order others n = (j m o : ℕ) → j < n → slice_get order j ≡ Some m
    → slice_get others j ≡ Some o → FitsAt tables peers parts j m o
