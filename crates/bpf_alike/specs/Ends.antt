-- Whether jobs can reach their ends, by kept machines that show worlds but for dead registers.
use Rattle.std.specs.Prelude.{◌≡◌, ℕ, zero, suc, Bool, false, List, Some, slice_get}
use Rattle.bpf_cpu.specs.Task.{Task}
use Rattle.bpf_machine.specs.declared.machine.ahead.Headway.{Headway}
use Rattle.bpf_machine.specs.Cover.{IsAhead, IsShown, TurnsTo}
use Rattle.bpf_machine.specs.Ends.{CanEnd, IsHung}
use Rattle.bpf_machine.specs.Headways.{IsAheadOf, with_jobs}
use Rattle.bpf_machine.specs.Laws.{IsFresh}
use Rattle.bpf_machine.specs.Machine.{MachineState, Shows}
use Rattle.bpf_machine.specs.Patient.{AsRich, NoneRanOut}
use Rattle.bpf_machine.specs.Rounds.{HaveEnded}
use Rattle.bpf_machine.specs.Schedule.{RunsSchedule, World}
use Rattle.bpf_alike.specs.Patient.{IsClosedAlikeRichly}
use Rattle.bpf_alike.specs.Worlds.{AllAlike}

-- the i-th kept machine shows the world, but for dead registers
abbrev pub IsShownAlikeAt : List MachineState → ℕ → World → Type 0
IsShownAlikeAt kept i w = (jobs : List Task) × AllAlike w.programs w.jobs jobs
    × ((m : MachineState) × (slice_get kept i ≡ Some m) × Shows m (with_jobs w jobs))

-- with richer jobs it does
abbrev pub IsShownAlikeRichlyAt : List MachineState → ℕ → World → Type 0
IsShownAlikeRichlyAt kept i w =
    (jobs : List Task) × AsRich w.jobs jobs × IsShownAlikeAt kept i (with_jobs w jobs)

-- what the machine shows, it shows so
abbrev pub IsKeptAlikeRichlyAt : List MachineState → ℕ → MachineState → Type 0
IsKeptAlikeRichlyAt kept i m =
    (w : World) → Shows m w → IsShownAlikeRichlyAt kept i w

-- but for turns that CPUs make ahead, and for dead registers, the world is what it shows
abbrev pub IsCoveredAlikeAt : List MachineState → ℕ → World → Type 0
IsCoveredAlikeAt kept i w =
    (v : World) × (headways : ℕ → Headway) × IsShownAlikeAt kept i v
    × (with_jobs v w.jobs ≡ w) × IsAheadOf (IsAhead headways) headways w.jobs v

-- with richer jobs it is
abbrev pub IsCoveredAlikeRichlyAt : List MachineState → ℕ → World → Type 0
IsCoveredAlikeRichlyAt kept i w =
    (jobs : List Task) × AsRich w.jobs jobs × IsCoveredAlikeAt kept i (with_jobs w jobs)

-- the CPU's turn, made from the i-th, leads to the k-th
abbrev pub LeadsToAlike : List MachineState → ℕ → ℕ → ℕ → Type 0
LeadsToAlike kept i c k = (m : MachineState) × (new : MachineState)
    × (slice_get kept i ≡ Some m) × TurnsTo m c new × IsKeptAlikeRichlyAt kept k new

-- this many such turns lead from the i-th to one without work in which no job is out of budget
abbrev pub EndsInAlike : List MachineState → ℕ → ℕ → Type 0
EndsInAlike kept zero i = (m : MachineState) × (slice_get kept i ≡ Some m)
    × HaveEnded m.jobs × NoneRanOut m.jobs
EndsInAlike kept (suc n) i =
    (c k : ℕ) × LeadsToAlike kept i c k × EndsInAlike kept n k

-- the machine has work, none of its jobs is out of budget, and each CPU's turn leads to one that is
-- marked as not ending
pub record IsStuckAlike (kept : List MachineState) (ends : List Bool) (i : ℕ)
    : Type 0 where
  pub works : (m : MachineState) → slice_get kept i ≡ Some m → HaveEnded m.jobs → ⊥
  pub none : (m : MachineState) → slice_get kept i ≡ Some m → NoneRanOut m.jobs
  pub turns : (c : ℕ)
      → (k : ℕ) × LeadsToAlike kept i c k × (slice_get ends k ≡ Some false)

-- so is each that is marked so
abbrev pub AreStuckAlike : List MachineState → List Bool → Type 0
AreStuckAlike kept ends =
    (i : ℕ) → slice_get ends i ≡ Some false → IsStuckAlike kept ends i

-- ---- laws
-- what a schedule leads to, and what such a machine shows but for richer jobs and dead registers, never
-- ends
abbrev pub AlikeStuckAreHung : Type 0
AlikeStuckAreHung =
    (kept : List MachineState) (ends : List Bool) (w z : World)
    (schedule : List ℕ) (i : ℕ)
    → AreStuckAlike kept ends → IsFresh w → RunsSchedule w schedule z
    → slice_get ends i ≡ Some false → IsShownAlikeRichlyAt kept i z → IsHung z

-- where this many turns lead from the i-th to an end, so does all that it covers
abbrev pub AlikeCanEnd : Type 0
AlikeCanEnd =
    (kept : List MachineState) (n i : ℕ) (z : World)
    → EndsInAlike kept n i → IsCoveredAlikeRichlyAt kept i z
    → CanEnd z

-- where each kept machine leads to an end, so does all that schedules lead to before some job runs
-- out of budget
abbrev pub AlikeAllCanEnd : Type 0
AlikeAllCanEnd =
    (kept : List MachineState) (w z : World) (schedule : List ℕ)
    → IsClosedAlikeRichly kept
    → ((i : ℕ) (m : MachineState) → slice_get kept i ≡ Some m
    → (n : ℕ) × EndsInAlike kept n i)
    → IsFresh w → IsShown kept w → RunsSchedule w schedule z → NoneRanOut z.jobs → CanEnd z
