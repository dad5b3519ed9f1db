-- States from which no end can be reached, while they are found.
use Rattle.std.specs.Prelude.{◌≡◌, ℕ, ◌<◌, ◌⊎◌, Bool, false, List, Some, length, slice_get}
use Rattle.bpf_machine.specs.Laws.{IsFresh}
use Rattle.bpf_machine.specs.Machine.{MachineState}
use Rattle.bpf_machine.specs.Schedule.{World, RunsSchedule, unrolled}
use Rattle.bpf_machine.specs.Ends.{IsShownRichlyAt}
use Rattle.bpf_equal.specs.declared.peers.Peer.{Peer}
use Rattle.bpf_equal.specs.Worlds.{AreSymmetries}
use Rattle.bpf_explore.specs.Album.{LeadsFreely}
use Rattle.bpf_explore.specs.Patient.{HangsBy}
use Rattle.bpf_explore.specs.Private.Answers.{IsFirst}
use Rattle.bpf_explore.specs.Private.Ends.{LeadsToEnd}

-- the schedule leads from the first to one from which no end can be reached
abbrev pub Hangs : List MachineState → List (ℕ × ℕ) → Type 0
Hangs kept by = (w : World) → IsFresh w → IsFirst kept w → HangsBy w by

abbrev pub AllHang : List MachineState → List (List (ℕ × ℕ)) → Type 0
AllHang kept hung = (i : ℕ) (by : List (ℕ × ℕ)) → slice_get hung i ≡ Some by → Hangs kept by

-- it leads to the i-th, but for steps that are left
abbrev pub ComesTo : List MachineState → List (ℕ × ℕ) → ℕ → Type 0
ComesTo kept by i = (w : World) → IsFresh w → IsFirst kept w
    → (y : World) × RunsSchedule w (unrolled by) y × IsShownRichlyAt kept i y

-- turns lead from the one to the other, where jobs are given steps
abbrev pub LeadsOn : List MachineState → ℕ → ℕ → Type 0
LeadsOn kept i j = (schedule : List ℕ) × LeadsFreely kept i schedule j

-- one of these schedules leads to a machine from which turns lead to the i-th
abbrev pub IsBeyondOne : List MachineState → List (List (ℕ × ℕ)) → ℕ → Type 0
IsBeyondOne kept hung i = (k : ℕ) × (by : List (ℕ × ℕ)) × (j : ℕ) × (slice_get hung k ≡ Some by)
    × ComesTo kept by j × LeadsOn kept j i

-- so it is of each of the first n that isn't marked
abbrev pub AllBeyondBelow : List MachineState → List Bool → List (List (ℕ × ℕ)) → ℕ → Type 0
AllBeyondBelow kept marks hung n = (i : ℕ) → i < n → slice_get marks i ≡ Some false
    → IsBeyondOne kept hung i

-- each kept machine leads to an end, or is beyond one of them
abbrev pub AllLeadOrBeyond : List Peer → List MachineState → List (List (ℕ × ℕ)) → Type 0
AllLeadOrBeyond peers kept hung =
    (i : ℕ) → i < length kept → LeadsToEnd peers kept i ⊎ IsBeyondOne kept hung i

-- each exchange of two of these jobs leaves the first machine as it is
abbrev pub StaysFirst : List Peer → List MachineState → Type 0
StaysFirst peers kept = (w : World) → IsFresh w → IsFirst kept w → AreSymmetries peers w

-- the schedule is listed
abbrev pub IsAmong : List (List (ℕ × ℕ)) → List (ℕ × ℕ) → Type 0
IsAmong hung by = (k : ℕ) × (slice_get hung k ≡ Some by)
