-- Lists of machines with store buffers that cover moves but for dead registers and for how many steps are
-- left of budgets.
use Rattle.std.specs.Prelude.{◌≡◌, ℕ, List, [], ◌∷◌, ◌⊎◌, Some, slice_get}
use Rattle.bpf_cpu.specs.declared.outcome.Outcome.TheVariants.{OutOfBudget}
use Rattle.bpf_cpu.specs.Task.{Task, Ended}
use Rattle.bpf_machine.specs.Laws.{IsFresh}
use Rattle.bpf_machine.specs.Patient.{AsRich, NoneRanOut}
use Rattle.bpf_machine.specs.Rounds.{HaveEnded}
use Rattle.bpf_machine.specs.Schedule.{World}
use Rattle.bpf_x86.specs.Machine.{X86, Move, Moves, RunsMoves, drained}
use Rattle.bpf_buffering.specs.Search.{BufferedState, ShowsX86, IsShownX86, CannotMove}
use Rattle.bpf_buffering.specs.Ahead.{MovesAhead}
use Rattle.bpf_buffering.specs.Alike.{with_x86_jobs, IsShownAlikeX86}
use Rattle.bpf_flushes.specs.Moves.{MakesAll}

-- ---- what a search keeps
-- with richer jobs, a kept machine shows this one, but for dead registers
abbrev pub IsShownRichlyX86 : List BufferedState → X86 → Type 0
IsShownRichlyX86 kept x =
    (jobs : List Task) × AsRich x.world.jobs jobs × IsShownAlikeX86 kept (with_x86_jobs x jobs)

-- all that the machine shows, a kept one shows so
abbrev pub IsKeptRichlyX86 : List BufferedState → BufferedState → Type 0
IsKeptRichlyX86 kept m = (x : X86) → ShowsX86 m x → IsShownRichlyX86 kept x

-- so each move from each kept machine, and turns after it that are unseen, lead to such a one
abbrev pub IsClosedRichlyX86 : List BufferedState → Type 0
IsClosedRichlyX86 kept = (i : ℕ) (m : BufferedState) → slice_get kept i ≡ Some m → (move : Move)
    → ((new : BufferedState) × MovesAhead m move new × IsKeptRichlyX86 kept new)
    ⊎ CannotMove m move

-- THE LAW: a list that is closed so, and shows a machine before its first turn, shows each
-- machine without work that schedules of moves lead to while no job runs out of budget
abbrev pub PatientSetsCoverX86 : Type 0
PatientSetsCoverX86 = (kept : List BufferedState) (w : World) (moves : List Move) (z : X86)
    → IsClosedRichlyX86 kept → IsFresh w → IsShownX86 kept (drained w)
    → RunsMoves (drained w) moves z → HaveEnded z.world.jobs → NoneRanOut z.world.jobs
    → IsShownX86 kept z

-- ---- moves where jobs are given steps on the way
-- the run of moves in which jobs in hand may be given more steps before each move, and at last
abbrev pub RunsFreelyX86 : X86 → List Move → X86 → Type 0
RunsFreelyX86 x [] z = (jobs : List Task) × AsRich x.world.jobs jobs × (z ≡ with_x86_jobs x jobs)
RunsFreelyX86 x (move ∷ moves) z =
    (jobs : List Task) × (y : X86) × AsRich x.world.jobs jobs × Moves (with_x86_jobs x jobs) move y
    × RunsFreelyX86 y moves z

-- moves that are made, or passed over where they are flushes for nothing, are all made as long as no job
-- runs out of budget, if they can be made where jobs are given steps; and they lead to the same, but for
-- richer jobs
abbrev pub FreeMovesAgree : Type 0
FreeMovesAgree = (w : World) (moves : List Move) (z y : X86) → IsFresh w
    → MakesAll (drained w) moves z → NoneRanOut z.world.jobs → RunsFreelyX86 (drained w) moves y
    → RunsMoves (drained w) moves z × AsRich z.world.jobs y.world.jobs
    × (with_x86_jobs z y.world.jobs ≡ y)

-- some moves lead to a machine in which a job has ended out of budget
abbrev pub MayRunOutX86 : World → Type 0
MayRunOutX86 w = (moves : List Move) × (z : X86) × RunsMoves (drained w) moves z
    × ((j : ℕ) × (task : Task) × (pc : ℕ) × (slice_get z.world.jobs j ≡ Some task)
    × (task.stage ≡ Ended (OutOfBudget pc)))
