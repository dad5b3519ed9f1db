-- Lists of machines that cover all that schedules lead to, but for CPUs and jobs that change places, and
-- for registers that are written before they are read.
use Rattle.std.specs.Prelude.{◌≡◌, ℕ, List, Some, slice_get}
use Rattle.bpf_cpu.specs.Task.{Task}
use Rattle.bpf_machine.specs.declared.machine.Turn.{Turn}
use Rattle.bpf_machine.specs.Cover.{IsShown, TurnsTo}
use Rattle.bpf_machine.specs.Headways.{with_jobs}
use Rattle.bpf_machine.specs.Laws.{IsFresh}
use Rattle.bpf_machine.specs.Machine.{MachineState, Shows}
use Rattle.bpf_machine.specs.Patient.{AsRich, NoneRanOut}
use Rattle.bpf_machine.specs.Rounds.{HaveEnded}
use Rattle.bpf_machine.specs.Schedule.{RunsSchedule, TakesTurn, World}
use Rattle.bpf_alike.specs.Covers.{IsCoveredAlike, IsShownAlike}
use Rattle.bpf_alike.specs.Patient.{IsShownAlikeRichly}
use Rattle.bpf_equal.specs.Peers.{Peer}
use Rattle.bpf_equal.specs.Worlds.{AreNeighbours, ArePermuted}

-- this is so of a world, but for these peers
abbrev pub ButForPlaces : List Peer → (World → Type 0) → World → Type 0
ButForPlaces peers P w = (v : World) × ArePermuted peers w v × P v

-- each CPU's turn from each kept machine leads to what a kept one shows, but for places and dead
-- registers
abbrev pub IsClosedPermuted : List Peer → List MachineState → Type 0
IsClosedPermuted peers kept = (i : ℕ) (m : MachineState) (c : ℕ) → slice_get kept i ≡ Some m
    → (new : MachineState) × TurnsTo m c new
    × ((w : World) → Shows new w → ButForPlaces peers (IsShownAlike kept) w)

-- and for richer jobs
abbrev pub IsClosedPermutedRichly : List Peer → List MachineState → Type 0
IsClosedPermutedRichly peers kept = (i : ℕ) (m : MachineState) (c : ℕ) → slice_get kept i ≡ Some m
    → (new : MachineState) × TurnsTo m c new
    × ((w : World) → Shows new w → ButForPlaces peers (IsShownAlikeRichly kept) w)

-- the world is covered, but for places
abbrev pub IsCoveredPermuted : List Peer → List MachineState → World → Type 0
IsCoveredPermuted peers kept w = ButForPlaces peers (IsCoveredAlike kept) w

-- with richer jobs it is
abbrev pub IsCoveredPermutedRichly : List Peer → List MachineState → World → Type 0
IsCoveredPermutedRichly peers kept w =
    (jobs : List Task) × AsRich w.jobs jobs × IsCoveredPermuted peers kept (with_jobs w jobs)

-- what a kept machine without work shows, kept ones show after each move
abbrev pub KeepsEnds : List Peer → List MachineState → Type 0
KeepsEnds peers kept =
    (w v : World) → IsShown kept w → HaveEnded w.jobs → AreNeighbours peers w v → IsShown kept v

-- ---- laws
-- a list that is closed so, and shows the first world, covers all that schedules lead to; and where no
-- CPU has work left, it shows that but for places
abbrev pub PermutedSetsCover : Type 0
PermutedSetsCover =
    (peers : List Peer) (kept : List MachineState) (first z : World) (schedule : List ℕ)
    → IsClosedPermuted peers kept → IsFresh first → IsShown kept first
    → RunsSchedule first schedule z
    → IsCoveredPermuted peers kept z
    × (HaveEnded z.jobs → ButForPlaces peers (IsShown kept) z)

-- each CPU has its next turn there
abbrev pub PermutedSetsHaveTurns : Type 0
PermutedSetsHaveTurns =
    (peers : List Peer) (kept : List MachineState) (first z : World) (schedule : List ℕ) (c : ℕ)
    → IsClosedPermuted peers kept → IsFresh first → IsShown kept first
    → RunsSchedule first schedule z → (answer : Turn) × (y : World) × TakesTurn z c answer y

-- one that is closed richly does while no job runs out of budget
abbrev pub PermutedPatientSetsCover : Type 0
PermutedPatientSetsCover =
    (peers : List Peer) (kept : List MachineState) (first z : World) (schedule : List ℕ)
    → IsClosedPermutedRichly peers kept → IsFresh first → IsShown kept first
    → RunsSchedule first schedule z → NoneRanOut z.jobs
    → IsCoveredPermutedRichly peers kept z
    × (HaveEnded z.jobs → ButForPlaces peers (IsShown kept) z)

-- with richer jobs each CPU has its next turn there
abbrev pub PermutedPatientSetsHaveTurns : Type 0
PermutedPatientSetsHaveTurns =
    (peers : List Peer) (kept : List MachineState) (first z : World) (schedule : List ℕ)
    → IsClosedPermutedRichly peers kept → IsFresh first → IsShown kept first
    → RunsSchedule first schedule z → NoneRanOut z.jobs
    → (jobs : List Task) × AsRich z.jobs jobs × ((c : ℕ)
    → (answer : Turn) × (y : World) × TakesTurn (with_jobs z jobs) c answer y)

-- where ends are kept after each move, what a kept machine shows but for peers, one shows
abbrev pub KeptEndsAreShown : Type 0
KeptEndsAreShown =
    (peers : List Peer) (kept : List MachineState) (z : World) → KeepsEnds peers kept
    → ButForPlaces peers (IsShown kept) z → HaveEnded z.jobs → IsShown kept z
