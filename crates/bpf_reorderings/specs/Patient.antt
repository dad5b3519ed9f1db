-- Outcomes on CPUs with store buffers in which no job is out of budget, and states from which none is
-- reached.
use Rattle.std.specs.Prelude.{◌≡◌, ℕ, ◌<◌, ◌≤◌, ◌⊎◌, Bool, true, false, List, [], Some, length, map, slice_get}
use Rattle.std.specs.declared.cmp.Ordering.TheVariants.{Less}
use Rattle.std.specs.Ordering.{nat_cmp}
use Rattle.std.specs.Cmp.Lexicographic.{slice_cmp}
use Rattle.bpf_names.specs.Names.{Names}
use Rattle.bpf_machine.specs.Patient.{NoneRanOut}
use Rattle.bpf_machine.specs.Rounds.{HaveEnded}
use Rattle.bpf_machine.specs.Schedule.{World, unrolled}
use Rattle.bpf_x86.specs.Machine.{X86, Move, RunsMoves, drained}
use Rattle.bpf_buffering.specs.Alike.{ButForDeadX86}
use Rattle.bpf_buffering.specs.Search.{BufferedState, RunsScheduleX86, ShowsX86, move_of}
use Rattle.bpf_patience.specs.Patience.{MayRunOutX86, RunsFreelyX86}
use Rattle.bpf_patience.specs.Ends.{CanEndX86, IsHungX86}
use Rattle.bpf_jobs.specs.Printed.{Tells}
use Rattle.bpf_explore.specs.Outcomes.{Found, IsTold}
use Rattle.bpf_explore.specs.declared.budgets.Budgets.TheVariants.{Suffice, RunOut}
use Rattle.bpf_explore.specs.declared.exploring.ExploredPatiently.{ExploredPatiently}

-- some moves lead to a machine without work, in which no job is out of budget, and of which this is
-- printed
abbrev pub IsPatientOutcomeX86 : World → Names → Bool → List ℕ → Bool → Type 0
IsPatientOutcomeX86 w names maps text stopped =
    (moves : List Move) × (z : X86) × RunsMoves (drained w) moves z × HaveEnded z.world.jobs
    × NoneRanOut z.world.jobs × Tells z.world.store z.world.jobs names maps text stopped

-- none of them is left out
abbrev pub HaveAllPatientX86 : World → Names → Bool → List Found → Type 0
HaveAllPatientX86 w names maps answers = (text : List ℕ) (stopped : Bool)
    → IsPatientOutcomeX86 w names maps text stopped → IsTold answers text stopped

-- the answer is one of them, by its own schedule, and nothing waits where that ends
abbrev pub EndsPatientlyX86 : World → Names → Bool → Found → Type 0
EndsPatientlyX86 w names maps found =
    (z : World) × RunsScheduleX86 w (unrolled found.by) (drained z) × HaveEnded z.jobs
    × NoneRanOut z.jobs × Tells z.store z.jobs names maps found.text found.stopped

-- each answer is one, and they are in the order of their texts' bytes, none twice
pub record ArePatientX86 (w : World) (names : Names) (maps : Bool) (answers : List Found)
    : Type 0 where
  pub each : (i : ℕ) (found : Found) → slice_get answers i ≡ Some found
      → EndsPatientlyX86 w names maps found
  pub sorted : (i j : ℕ) (found later : Found) → i < j → slice_get answers i ≡ Some found
      → slice_get answers j ≡ Some later → slice_cmp nat_cmp found.text later.text ≡ Less

-- schedules lead to this many machines, where jobs in hand are given steps on the way; whether two of
-- them are the same isn't said
pub record AreReachedFreelyX86 (w : World) (states : ℕ) : Type 0 where
  pub machines : List X86
  pub count : length machines ≡ states
  pub reached : (i : ℕ) (z : X86) → slice_get machines i ≡ Some z
      → (schedule : List ℕ) × RunsFreelyX86 (drained w) (map move_of schedule) z

-- ---- states from which no end can be reached
-- the schedule leads to one, and no job has run out of budget there
abbrev pub HangsByX86 : World → List (ℕ × ℕ) → Type 0
HangsByX86 w by = (z : X86) × RunsScheduleX86 w (unrolled by) z × NoneRanOut z.world.jobs × IsHungX86 z

abbrev pub AreHungX86 : World → List (List (ℕ × ℕ)) → Type 0
AreHungX86 w hung = (i : ℕ) (by : List (ℕ × ℕ)) → slice_get hung i ≡ Some by → HangsByX86 w by

-- moves lead to what this machine shows but for dead registers, where jobs are given steps on the way
abbrev pub LeadsOnTo : X86 → BufferedState → Type 0
LeadsOnTo x m =
    (moves : List Move) × (y : X86) × RunsFreelyX86 x moves y × ButForDeadX86 (ShowsX86 m) y

-- a machine lies beyond: from where the schedule leads, and from it, moves lead to what one shows but for
-- dead registers
abbrev pub LiesBeyondX86 : World → List (ℕ × ℕ) → X86 → Type 0
LiesBeyondX86 w by z = (m : BufferedState) × (y : X86) × RunsScheduleX86 w (unrolled by) y
    × LeadsOnTo y m × LeadsOnTo z m

-- so it does beyond one of these
abbrev pub LiesBeyondOneX86 : World → List (List (ℕ × ℕ)) → X86 → Type 0
LiesBeyondOneX86 w hung z = (i : ℕ) × (by : List (ℕ × ℕ)) × (slice_get hung i ≡ Some by)
    × LiesBeyondX86 w by z

-- from all that moves lead to before some job runs out of budget an end can be reached, but for what lies
-- beyond one of these
abbrev pub NoOtherHangsX86 : World → List (List (ℕ × ℕ)) → Type 0
NoOtherHangsX86 w hung = (moves : List Move) (z : X86) → RunsMoves (drained w) moves z
    → NoneRanOut z.world.jobs → CanEndX86 z ⊎ LiesBeyondOneX86 w hung z

-- from all of it
abbrev pub NoneHangsX86 : World → Type 0
NoneHangsX86 w = (moves : List Move) (z : X86) → RunsMoves (drained w) moves z
    → NoneRanOut z.world.jobs → CanEndX86 z

-- ---- the result of a patient search
-- the answers, whether they are all, whether memory was refused to the search, how many states were
-- kept, hung states, and whether some schedule uses a budget up, where that is known. Not all are printed
-- only where the states are more than the limit, where memory was refused before, or where some schedule
-- does
pub record IsExploredPatientlyX86 (w : World) (names : Names) (maps : Bool) (limit : ℕ)
    (e : ExploredPatiently) : Type 0 where
  pub outcomes : ArePatientX86 w names maps e.answers.items
  pub complete : e.all ≡ true → HaveAllPatientX86 w names maps e.answers.items
  pub counted : AreReachedFreelyX86 w e.states
  pub met : e.all ≡ false → e.refused ≡ false → (limit < e.states) ⊎ (e.budgets ≡ RunOut)
  pub short : e.refused ≡ true → (e.all ≡ false) × (e.states ≤ limit)
  pub are_hung : AreHungX86 w e.hung.items
  pub no_other : e.all ≡ true → NoOtherHangsX86 w e.hung.items
  pub none_hangs : e.all ≡ true → e.hung.items ≡ [] → NoneHangsX86 w
  pub suffice : e.budgets ≡ Suffice → ⊥
  pub run_out : e.budgets ≡ RunOut → MayRunOutX86 w
