-- Lists of machines that cover all that schedules lead to.
use Rattle.std.specs.Prelude.{◌≡◌, ℕ, suc, List, slice_get, Some}
use Rattle.bpf_machine.specs.declared.machine.Turn.{Turn}
use Rattle.bpf_machine.specs.declared.machine.ahead.Headway.{Headway}
use Rattle.bpf_machine.specs.declared.machine.ahead.Headway.TheVariants.{Turns}
use Rattle.bpf_machine.specs.Schedule.{World, TakesTurn, RunsSchedule}
use Rattle.bpf_machine.specs.Rounds.{HaveEnded}
use Rattle.bpf_machine.specs.Machine.{MachineState, Shows}
use Rattle.bpf_machine.specs.Laws.{IsFresh}
use Rattle.bpf_machine.specs.Headways.{RunsAhead, turns_in, IsAheadOf, with_jobs}

-- a CPU's turn, and then turns of its own that no store sees
abbrev pub TurnsTo : MachineState → ℕ → MachineState → Type 0
TurnsTo old c new =
    (answer : Turn) × (mid : MachineState) × (headway : Headway)
    × ((w : World) → Shows old w → (z : World) × TakesTurn w c answer z × Shows mid z)
    × RunsAhead mid c headway new

-- the same where these are this many
abbrev pub TurnsAhead : MachineState → ℕ → ℕ → MachineState → Type 0
TurnsAhead old c n new =
    (answer : Turn) × (mid : MachineState) × (headway : Headway)
    × ((w : World) → Shows old w → (z : World) × TakesTurn w c answer z × Shows mid z)
    × RunsAhead mid c headway new × (turns_in headway ≡ n)

-- all that the machine shows, one kept machine shows
abbrev pub IsKeptAs : List MachineState → MachineState → Type 0
IsKeptAs kept m = (i : ℕ) × (one : MachineState) × (slice_get kept i ≡ Some one)
    × ((w : World) → Shows m w → Shows one w)

-- each CPU's turn leads from the machine to one that is kept so
abbrev pub TurnsAreKept : List MachineState → MachineState → Type 0
TurnsAreKept kept m = (c : ℕ) → (new : MachineState) × TurnsTo m c new × IsKeptAs kept new

-- from each kept machine
abbrev pub IsClosed : List MachineState → Type 0
IsClosed kept = (i : ℕ) (m : MachineState) → slice_get kept i ≡ Some m → TurnsAreKept kept m

-- a kept machine shows the world
abbrev pub IsShown : List MachineState → World → Type 0
IsShown kept w = (i : ℕ) × (m : MachineState) × (slice_get kept i ≡ Some m) × Shows m w

-- the CPU has made turns ahead
abbrev pub IsAhead : (ℕ → Headway) → ℕ → Type 0
IsAhead headways c = (n : ℕ) × (headways c ≡ Turns (suc n))

-- but for turns that CPUs make ahead, the world is what a kept machine shows
abbrev pub IsCovered : List MachineState → World → Type 0
IsCovered kept w =
    (v : World) × (headways : ℕ → Headway) × IsShown kept v × (with_jobs v w.jobs ≡ w)
    × IsAheadOf (IsAhead headways) headways w.jobs v

-- a closed list that shows a machine before its first turn covers all that schedules lead to; and
-- where no CPU has work left, it shows that
abbrev pub ClosedSetsCover : Type 0
ClosedSetsCover =
    (kept : List MachineState) (w z : World) (schedule : List ℕ) → IsClosed kept → IsFresh w
    → IsShown kept w → RunsSchedule w schedule z
    → IsCovered kept z × (HaveEnded z.jobs → IsShown kept z)
