-- Whether jobs on CPUs with store buffers can reach their ends, where they are given more steps on the
-- way.
use Rattle.std.specs.Prelude.{◌≡◌, ℕ, zero, suc, Bool, false, List, ◌⊎◌, Some, slice_get}
use Rattle.bpf_cpu.specs.Task.{Task}
use Rattle.bpf_machine.specs.Laws.{IsFresh}
use Rattle.bpf_machine.specs.Patient.{AsRich, NoneRanOut}
use Rattle.bpf_machine.specs.Rounds.{HaveEnded}
use Rattle.bpf_machine.specs.Schedule.{World}
use Rattle.bpf_x86.specs.Machine.{X86, Move, TurnOf, FlushOf, RunsMoves, drained}
use Rattle.bpf_buffering.specs.Search.{BufferedState, ShowsX86, IsShownX86, CannotMove}
use Rattle.bpf_buffering.specs.Ahead.{MovesAhead}
use Rattle.bpf_buffering.specs.Alike.{with_x86_jobs, IsShownAlikeX86, IsShownAlikeAtX86}
use Rattle.bpf_patience.specs.Patience.{RunsFreelyX86, IsClosedRichlyX86}

-- some run of moves leads to a machine without work in which no job is out of budget
abbrev pub CanEndX86 : X86 → Type 0
CanEndX86 x = (moves : List Move) × (z : X86) × RunsFreelyX86 x moves z × HaveEnded z.world.jobs
    × NoneRanOut z.world.jobs

-- none does, however many steps jobs are given: they wait for each other, or turn in a circle
abbrev pub IsHungX86 : X86 → Type 0
IsHungX86 x = CanEndX86 x → ⊥

-- ---- kept machines
-- with richer jobs, the i-th shows this machine, but for dead registers
abbrev pub IsShownRichlyAtX86 : List BufferedState → ℕ → X86 → Type 0
IsShownRichlyAtX86 kept i x =
    (jobs : List Task) × AsRich x.world.jobs jobs × IsShownAlikeAtX86 kept i (with_x86_jobs x jobs)

-- all that the machine shows, it shows so
abbrev pub IsKeptRichlyAtX86 : List BufferedState → ℕ → BufferedState → Type 0
IsKeptRichlyAtX86 kept i m = (x : X86) → ShowsX86 m x → IsShownRichlyAtX86 kept i x

-- the move from the i-th, and turns that are unseen after it, lead to the k-th
abbrev pub LeadsToX86 : List BufferedState → ℕ → Move → ℕ → Type 0
LeadsToX86 kept i move k = (m : BufferedState) × (new : BufferedState)
    × (slice_get kept i ≡ Some m) × MovesAhead m move new × IsKeptRichlyAtX86 kept k new

-- this many such moves lead from the i-th to one without work in which no job is out of budget
abbrev pub EndsInX86 : List BufferedState → ℕ → ℕ → Type 0
EndsInX86 kept zero i = (m : BufferedState) × (slice_get kept i ≡ Some m)
    × HaveEnded m.machine.jobs × NoneRanOut m.machine.jobs
EndsInX86 kept (suc n) i =
    (move : Move) × (k : ℕ) × LeadsToX86 kept i move k × EndsInX86 kept n k

-- the i-th has work, none of its jobs is out of budget, and each move from it leads to one that is marked
-- as not ending, or is a flush where nothing waits
pub record IsStuckX86 (kept : List BufferedState) (ends : List Bool) (i : ℕ) : Type 0 where
  pub works : (m : BufferedState) → slice_get kept i ≡ Some m → HaveEnded m.machine.jobs → ⊥
  pub none : (m : BufferedState) → slice_get kept i ≡ Some m → NoneRanOut m.machine.jobs
  pub turns : (c : ℕ) → (k : ℕ) × LeadsToX86 kept i (TurnOf c) k × (slice_get ends k ≡ Some false)
  pub flushes : (c : ℕ)
      → ((k : ℕ) × LeadsToX86 kept i (FlushOf c) k × (slice_get ends k ≡ Some false))
      ⊎ ((m : BufferedState) → slice_get kept i ≡ Some m → CannotMove m (FlushOf c))

-- so is each that is marked so
abbrev pub AreStuckX86 : List BufferedState → List Bool → Type 0
AreStuckX86 kept ends = (i : ℕ) → slice_get ends i ≡ Some false → IsStuckX86 kept ends i

-- moves lead from the machine to what a kept one shows but for dead registers, where jobs are given steps on
-- the way
abbrev pub LeadsOnX86 : List BufferedState → X86 → Type 0
LeadsOnX86 kept x =
    (moves : List Move) × (y : X86) × RunsFreelyX86 x moves y × IsShownAlikeX86 kept y

-- ---- the laws
-- what moves lead to, and what such a machine shows but for richer jobs and dead registers, never ends
abbrev pub StuckX86sAreHung : Type 0
StuckX86sAreHung = (kept : List BufferedState) (ends : List Bool) (w : World) (moves : List Move)
    (z : X86) (i : ℕ) → AreStuckX86 kept ends → IsFresh w → RunsMoves (drained w) moves z
    → slice_get ends i ≡ Some false → IsShownRichlyAtX86 kept i z → IsHungX86 z

-- where this many moves lead from the i-th to an end, what it shows but for dead registers can reach one
abbrev pub X86sCanEnd : Type 0
X86sCanEnd = (kept : List BufferedState) (n i : ℕ) (x : X86) → EndsInX86 kept n i
    → IsShownAlikeAtX86 kept i x → CanEndX86 x

-- where a list is closed so, and shows a machine before its first turn, all that schedules of
-- moves lead to while no job runs out of budget leads on to what it shows
abbrev pub PatientSetsLeadOn : Type 0
PatientSetsLeadOn = (kept : List BufferedState) (w : World) (moves : List Move) (z : X86)
    → IsClosedRichlyX86 kept → IsFresh w → IsShownX86 kept (drained w)
    → RunsMoves (drained w) moves z → NoneRanOut z.world.jobs → LeadsOnX86 kept z
