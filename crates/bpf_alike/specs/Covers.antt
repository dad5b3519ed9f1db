-- Lists of machines that cover all that schedules lead to, but for registers that are written before
-- they are read.
use Rattle.std.specs.Prelude.{◌≡◌, ℕ, List, Some, slice_get}
use Rattle.bpf_machine.specs.declared.machine.Stand.{Stand}
use Rattle.bpf_machine.specs.declared.machine.Turn.{Turn}
use Rattle.bpf_machine.specs.declared.machine.ahead.Headway.{Headway}
use Rattle.bpf_machine.specs.Cover.{IsAhead, IsShown, TurnsTo}
use Rattle.bpf_machine.specs.Headways.{IsAheadOf, with_jobs}
use Rattle.bpf_machine.specs.Laws.{IsFresh}
use Rattle.bpf_machine.specs.Machine.{MachineState, Shows}
use Rattle.bpf_machine.specs.Race.{IsRace, IsRaceKept}
use Rattle.bpf_machine.specs.Rounds.{HaveEnded}
use Rattle.bpf_machine.specs.Schedule.{RunsSchedule, TakesTurn, World}
use Rattle.bpf_alike.specs.Worlds.{ButForDead}

-- a kept machine shows the world, but for dead registers
abbrev pub IsShownAlike : List MachineState → World → Type 0
IsShownAlike kept w = ButForDead (IsShown kept) w

-- what the machine shows, a kept one shows, but for them
abbrev pub IsKeptAlike : List MachineState → MachineState → Type 0
IsKeptAlike kept m = (w : World) → Shows m w → IsShownAlike kept w

-- each CPU's turn from each kept machine leads to what a kept one shows, but for them
abbrev pub IsClosedAlike : List MachineState → Type 0
IsClosedAlike kept = (i : ℕ) (m : MachineState) (c : ℕ) → slice_get kept i ≡ Some m
    → (new : MachineState) × TurnsTo m c new × IsKeptAlike kept new

-- but for turns that CPUs make ahead, and for dead registers, the world is what a kept machine shows
abbrev pub IsCoveredAlike : List MachineState → World → Type 0
IsCoveredAlike kept w =
    (v : World) × (headways : ℕ → Headway) × IsShownAlike kept v
    × (with_jobs v w.jobs ≡ w) × IsAheadOf (IsAhead headways) headways w.jobs v

-- a list that is closed so, and shows a machine before its first turn, covers all that schedules lead
-- to; and where no CPU has work left, it shows that
abbrev pub AlikeSetsCover : Type 0
AlikeSetsCover =
    (kept : List MachineState) (w z : World) (schedule : List ℕ)
    → IsClosedAlike kept → IsFresh w → IsShown kept w
    → RunsSchedule w schedule z
    → IsCoveredAlike kept z × (HaveEnded z.jobs → IsShown kept z)

-- each CPU has its next turn there
abbrev pub AlikeSetsHaveTurns : Type 0
AlikeSetsHaveTurns =
    (kept : List MachineState) (w z : World) (schedule : List ℕ) (c : ℕ)
    → IsClosedAlike kept → IsFresh w → IsShown kept w
    → RunsSchedule w schedule z → (answer : Turn) × (y : World) × TakesTurn z c answer y

-- and each race there is one in what a kept machine shows
abbrev pub AlikeRacesAreKept : Type 0
AlikeRacesAreKept =
    (kept : List MachineState) (w z : World) (schedule : List ℕ)
    → IsClosedAlike kept → IsFresh w → IsShown kept w
    → RunsSchedule w schedule z → (one other : Stand) (b : ℕ) → IsRace z one other b
    → IsRaceKept kept z one other b
