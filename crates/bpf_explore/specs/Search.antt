-- The search through the machines that turns lead to, but for registers that are written before they
-- are read; besides, but for places of equal jobs, or for budgets.
use Rattle.std.specs.Prelude.{◌≡◌, ℕ, zero, suc, ◌<◌, ◌≤◌, Bool, true, false, List, [], ◌∷◌, ◌++◌, Some, length, slice_get}
use Rattle.bpf_machine.specs.Schedule.{World, RunsSchedule}
use Rattle.bpf_machine.specs.Rounds.{HaveEnded}
use Rattle.bpf_machine.specs.Laws.{IsFresh}
use Rattle.bpf_machine.specs.Machine.{MachineState, Shows}
use Rattle.bpf_machine.specs.Hands.{IsFree, NoneWaits}
use Rattle.bpf_machine.specs.Cover.{TurnsTo, IsShown}
use Rattle.bpf_machine.specs.Patient.{NoneRanOut}
use Rattle.bpf_alike.specs.Covers.{IsKeptAlike, IsShownAlike, IsClosedAlike, IsCoveredAlike}
use Rattle.bpf_alike.specs.Patient.{IsShownAlikeRichly}
use Rattle.bpf_equal.specs.declared.peers.Peer.{Peer}
use Rattle.bpf_equal.specs.Covers.{ButForPlaces, IsClosedPermuted, IsClosedPermutedRichly, IsCoveredPermuted, IsCoveredPermutedRichly}
use Rattle.bpf_explore.specs.Album.{BeginsAt}
use Rattle.bpf_explore.specs.declared.frontier.Extent.{Extent}
use Rattle.bpf_explore.specs.declared.frontier.Extent.TheVariants.{Whole, Limited, Refused}

-- how far a search came: nothing is left to be kept
abbrev pub is_whole : Extent → Bool
is_whole Whole = true
is_whole Limited = false
is_whole Refused = false

-- more are kept than the limit
abbrev pub is_limited : Extent → Bool
is_limited Whole = false
is_limited Limited = true
is_limited Refused = false

-- memory was refused to it
abbrev pub is_refused : Extent → Bool
is_refused Whole = false
is_refused Limited = false
is_refused Refused = true

-- which machines count as kept: those of which a kept one shows all but dead registers; besides, where
-- equal jobs have changed places; or also where jobs are richer
pub data Manner : Type 0 where
  Alike : Manner
  Permuted : List Peer → Manner
  Richly : List Peer → Manner

-- all that the machine shows, a kept one shows in this manner
abbrev pub IsKept : Manner → List MachineState → MachineState → Type 0
IsKept Alike kept m = IsKeptAlike kept m
IsKept (Permuted peers) kept m =
    (w : World) → Shows m w → ButForPlaces peers (IsShownAlike kept) w
IsKept (Richly peers) kept m =
    (w : World) → Shows m w → ButForPlaces peers (IsShownAlikeRichly kept) w

-- the CPU's turn was made from the i-th kept machine, and where it led is kept
abbrev pub IsTurned : Manner → List MachineState → ℕ → ℕ → Type 0
IsTurned manner kept i c = (m : MachineState) → slice_get kept i ≡ Some m
    → (new : MachineState) × TurnsTo m c new × IsKept manner kept new

-- so was each CPU's
abbrev pub IsExpanded : Manner → List MachineState → ℕ → Type 0
IsExpanded manner kept i = (c : ℕ) → IsTurned manner kept i c

-- the CPU has no work in the i-th kept machine
abbrev pub IsIdleAt : List MachineState → ℕ → ℕ → Type 0
IsIdleAt kept i c = (m : MachineState) → slice_get kept i ≡ Some m
    → IsFree m.jobs c × NoneWaits m.jobs c

-- the turns of the first n CPUs from the i-th kept machine
abbrev pub row_of : ℕ → ℕ → List (ℕ × ℕ)
row_of i zero = []
row_of i (suc n) = row_of i n ++ (i, n) ∷ []

-- those of n CPUs from each of the first n
abbrev pub rows_of : ℕ → ℕ → List (ℕ × ℕ)
rows_of cpus zero = []
rows_of cpus (suc n) = rows_of cpus n ++ row_of n cpus

-- more machines are after those that were there
abbrev pub Extends : List MachineState → List MachineState → Type 0
Extends old new = (more : List MachineState) × (new ≡ old ++ more)

-- nothing is left to be kept
abbrev pub IsWhole : Manner → List MachineState → Type 0
IsWhole Alike kept = IsClosedAlike kept
IsWhole (Permuted peers) kept = IsClosedPermuted peers kept
IsWhole (Richly peers) kept = IsClosedPermutedRichly peers kept

-- all that schedules lead to from a kept machine before its first turn is covered; and where no CPU
-- has work left, a kept machine shows it: in this manner. With richer jobs, while no job runs out of
-- budget
abbrev pub CoversAll : Manner → List MachineState → Type 0
CoversAll Alike kept =
    (w z : World) (schedule : List ℕ) → IsFresh w → IsShown kept w → RunsSchedule w schedule z
    → IsCoveredAlike kept z × (HaveEnded z.jobs → IsShown kept z)
CoversAll (Permuted peers) kept =
    (w z : World) (schedule : List ℕ) → IsFresh w → IsShown kept w → RunsSchedule w schedule z
    → IsCoveredPermuted peers kept z
    × (HaveEnded z.jobs → ButForPlaces peers (IsShown kept) z)
CoversAll (Richly peers) kept =
    (w z : World) (schedule : List ℕ) → IsFresh w → IsShown kept w → RunsSchedule w schedule z
    → NoneRanOut z.jobs
    → IsCoveredPermutedRichly peers kept z
    × (HaveEnded z.jobs → ButForPlaces peers (IsShown kept) z)

-- the search came this far, where these are kept
pub record CameTo (manner : Manner) (kept : List MachineState) (extent : Extent) (limit : ℕ) : Type 0
  where
    pub whole : extent ≡ Whole → IsWhole manner kept
    pub covers : extent ≡ Whole → CoversAll manner kept
    pub met : extent ≡ Limited → limit < length kept
    pub short : extent ≡ Refused → length kept ≤ limit

-- each end of each schedule from the first kept machine is shown
abbrev pub ShowsEnds : List MachineState → Type 0
ShowsEnds kept = (w z : World) (schedule : List ℕ) → BeginsAt kept w → RunsSchedule w schedule z
    → HaveEnded z.jobs → IsShown kept z

-- each end in which no job is out of budget is
abbrev pub ShowsEndsInBudget : List MachineState → Type 0
ShowsEndsInBudget kept = (w z : World) (schedule : List ℕ) → BeginsAt kept w
    → RunsSchedule w schedule z → NoneRanOut z.jobs → HaveEnded z.jobs → IsShown kept z

-- the search came this far, and where nothing was left to be kept, the kept machines show these ends
pub record CameToEnds (Ends : List MachineState → Type 0) (kept : List MachineState)
    (extent : Extent) (limit : ℕ) : Type 0 where
  pub ends : extent ≡ Whole → Ends kept
  pub met : extent ≡ Limited → limit < length kept
  pub short : extent ≡ Refused → length kept ≤ limit
