-- Lists of machines that cover schedules but for dead registers and for how many steps are left of
-- budgets.
use Rattle.std.specs.Prelude.{◌≡◌, ℕ, List, Some, slice_get}
use Rattle.bpf_cpu.specs.Task.{Task}
use Rattle.bpf_machine.specs.declared.machine.Stand.{Stand}
use Rattle.bpf_machine.specs.declared.machine.Turn.{Turn}
use Rattle.bpf_machine.specs.Cover.{IsShown, TurnsTo}
use Rattle.bpf_machine.specs.Headways.{with_jobs}
use Rattle.bpf_machine.specs.Laws.{IsFresh}
use Rattle.bpf_machine.specs.Machine.{MachineState, Shows}
use Rattle.bpf_machine.specs.Patient.{AsRich, NoneRanOut}
use Rattle.bpf_machine.specs.Race.{IsRace, IsRaceKept}
use Rattle.bpf_machine.specs.Rounds.{HaveEnded}
use Rattle.bpf_machine.specs.Schedule.{RunsSchedule, TakesTurn, World}
use Rattle.bpf_alike.specs.Covers.{IsCoveredAlike, IsShownAlike}

-- with richer jobs, a kept machine shows the world, but for dead registers
abbrev pub IsShownAlikeRichly : List MachineState → World → Type 0
IsShownAlikeRichly kept w =
    (jobs : List Task) × AsRich w.jobs jobs × IsShownAlike kept (with_jobs w jobs)

-- what the machine shows, a kept one shows so
abbrev pub IsKeptAlikeRichly : List MachineState → MachineState → Type 0
IsKeptAlikeRichly kept m = (w : World) → Shows m w → IsShownAlikeRichly kept w

-- each CPU's turn from each kept machine leads to what a kept one shows so
abbrev pub IsClosedAlikeRichly : List MachineState → Type 0
IsClosedAlikeRichly kept = (i : ℕ) (m : MachineState) (c : ℕ) → slice_get kept i ≡ Some m
    → (new : MachineState) × TurnsTo m c new × IsKeptAlikeRichly kept new

-- with richer jobs the world is covered, but for dead registers
abbrev pub IsCoveredAlikeRichly : List MachineState → World → Type 0
IsCoveredAlikeRichly kept w =
    (jobs : List Task) × AsRich w.jobs jobs × IsCoveredAlike kept (with_jobs w jobs)

-- a list that is closed so, and shows a machine before its first turn, covers all that schedules lead
-- to while no job runs out of budget; and where no CPU has work left, it shows that
abbrev pub AlikePatientSetsCover : Type 0
AlikePatientSetsCover =
    (kept : List MachineState) (w z : World) (schedule : List ℕ)
    → IsClosedAlikeRichly kept → IsFresh w → IsShown kept w
    → RunsSchedule w schedule z → NoneRanOut z.jobs
    → IsCoveredAlikeRichly kept z × (HaveEnded z.jobs → IsShown kept z)

-- with richer jobs each CPU has its next turn there
abbrev pub AlikePatientSetsHaveTurns : Type 0
AlikePatientSetsHaveTurns =
    (kept : List MachineState) (w z : World) (schedule : List ℕ)
    → IsClosedAlikeRichly kept → IsFresh w → IsShown kept w
    → RunsSchedule w schedule z → NoneRanOut z.jobs
    → (jobs : List Task) × AsRich z.jobs jobs × ((c : ℕ)
    → (answer : Turn) × (y : World) × TakesTurn (with_jobs z jobs) c answer y)

-- and each race there is one in what a kept machine shows
abbrev pub AlikePatientRacesAreKept : Type 0
AlikePatientRacesAreKept =
    (kept : List MachineState) (w z : World) (schedule : List ℕ)
    → IsClosedAlikeRichly kept → IsFresh w → IsShown kept w
    → RunsSchedule w schedule z → NoneRanOut z.jobs
    → (one other : Stand) (b : ℕ) → IsRace z one other b → IsRaceKept kept z one other b
