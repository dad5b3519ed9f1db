-- How deep kept machines are, while it is tried.
use Rattle.std.specs.Prelude.{◌≡◌, ℕ, ◌<◌, ◌⊎◌, List, Some, slice_get}
use Rattle.bpf_machine.specs.Machine.{MachineState}
use Rattle.bpf_machine.specs.Budgets.{depth_at}
use Rattle.bpf_equal.specs.declared.peers.Peer.{Peer}
use Rattle.bpf_equal.specs.Patient.{LeadsDeeperPermuted}
use Rattle.bpf_explore.specs.Search.{IsIdleAt}

-- the CPU's turn leads deeper from the i-th
abbrev pub LeadsDeeperAt : List Peer → List MachineState → List ℕ → ℕ → ℕ → Type 0
LeadsDeeperAt peers kept depths i c = (m : MachineState) → slice_get kept i ≡ Some m
    → LeadsDeeperPermuted peers kept depths i m c

-- it is less deep than this, and the turn of each CPU with work leads deeper
abbrev pub IsSparingAt : List Peer → List MachineState → List ℕ → ℕ → ℕ → Type 0
IsSparingAt peers kept depths least i = (depth_at depths i < least)
    × ((c : ℕ) → IsIdleAt kept i c ⊎ LeadsDeeperAt peers kept depths i c)
