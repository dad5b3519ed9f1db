-- Schedules to hung states, while the CPUs of equal jobs are exchanged.
use Rattle.std.specs.Prelude.{◌≡◌, ◌++◌, ℕ, ◌<◌, List, Some, map, slice_get}
use Rattle.bpf_machine.specs.Machine.{MachineState}
use Rattle.bpf_machine.specs.Schedule.{unrolled}
use Rattle.bpf_equal.specs.declared.peers.Peer.{Peer}
use Rattle.bpf_equal.specs.Peers.{AreOneGroup}
use Rattle.bpf_equal.specs.Permutations.{exchanged}
use Rattle.bpf_explore.specs.Private.Hung.{AllHang, StaysFirst}

-- the schedule is listed with the CPUs of both jobs exchanged, if they are of one group
abbrev pub IsListedFor : List Peer → List (List (ℕ × ℕ)) → List (ℕ × ℕ) → ℕ → ℕ → Type 0
IsListedFor peers hung by j k = (one other : Peer) → AreOneGroup peers j k one other
    → (n : ℕ) × (new : List (ℕ × ℕ)) × (slice_get hung n ≡ Some new)
    × (unrolled new ≡ map (exchanged one.cpu other.cpu) (unrolled by))

-- so it is for each later job below a number
abbrev pub IsListedFrom : List Peer → List (List (ℕ × ℕ)) → List (ℕ × ℕ) → ℕ → ℕ → Type 0
IsListedFrom peers hung by j below = (k : ℕ) → j < k → k < below → IsListedFor peers hung by j k

-- and that for each job below a number
abbrev pub IsListedAround : List Peer → List (List (ℕ × ℕ)) → List (ℕ × ℕ) → ℕ → Type 0
IsListedAround peers hung by below = (j k : ℕ) → j < below → j < k → IsListedFor peers hung by j k

-- so is each of the first n
abbrev pub AreClosedBelow : List Peer → List (List (ℕ × ℕ)) → ℕ → Type 0
AreClosedBelow peers hung n = (i j k : ℕ) (by : List (ℕ × ℕ)) → i < n
    → slice_get hung i ≡ Some by → j < k → IsListedFor peers hung by j k

-- none is lost, and where exchanges leave the first machine as it is, all that are new hang
pub record Grows (peers : List Peer) (old new : List (List (ℕ × ℕ))) : Type 0 where
  pub longer : (more : List (List (ℕ × ℕ))) × (new ≡ old ++ more)
  pub hang : (kept : List MachineState) → StaysFirst peers kept → AllHang kept old
      → AllHang kept new
