-- From which kept machines an end can be reached, while it is found.
use Rattle.std.specs.Prelude.{◌≡◌, ℕ, zero, suc, Bool, true, false, List, [], ◌∷◌, Some, length, slice_get}
use Rattle.bpf_machine.specs.Machine.{MachineState}
use Rattle.bpf_equal.specs.declared.peers.Peer.{Peer}
use Rattle.bpf_equal.specs.Patient.{EndsInPermuted, AreStuckPermuted}
use Rattle.bpf_explore.specs.Album.{NoneRanOutAt}

-- no job of any has ended out of budget
abbrev pub AllGoOn : List MachineState → Type 0
AllGoOn kept = (i : ℕ) → NoneRanOutAt kept i

-- turns lead from it to an end
abbrev pub LeadsToEnd : List Peer → List MachineState → ℕ → Type 0
LeadsToEnd peers kept i = (n : ℕ) × EndsInPermuted peers kept n i

-- how many aren't marked
abbrev pub unmarked : List Bool → ℕ
unmarked [] = zero
unmarked (true ∷ marks) = unmarked marks
unmarked (false ∷ marks) = suc (unmarked marks)

-- so they do from each that is marked
abbrev pub LeadToEnds : List Peer → List MachineState → List Bool → Type 0
LeadToEnds peers kept marks =
    (i : ℕ) → slice_get marks i ≡ Some true → LeadsToEnd peers kept i

-- and from none of the others
pub record AreMarked (peers : List Peer) (kept : List MachineState) (marks : List Bool)
    : Type 0 where
  pub count : length marks ≡ length kept
  pub lead : LeadToEnds peers kept marks
  pub stuck : AreStuckPermuted peers kept marks
