-- Answers while they are found.
use Rattle.std.specs.Prelude.{◌≡◌, ℕ, ◌<◌, Bool, true, false, List, Some, map, slice_get, if◌then◌else◌}
use Rattle.bpf_names.specs.Names.{Names}
use Rattle.bpf_machine.specs.Rounds.{HaveEnded}
use Rattle.bpf_machine.specs.Schedule.{World, unrolled}
use Rattle.bpf_x86.specs.Laws.{Counts}
use Rattle.bpf_x86.specs.Machine.{X86, RunsMoves, drained}
use Rattle.bpf_buffering.specs.Search.{BufferedState, ShowsX86, move_of}
use Rattle.bpf_buffering.specs.Album.{IsShownAt}
use Rattle.bpf_patience.specs.Patience.{MayRunOutX86}
use Rattle.bpf_jobs.specs.Printed.{Tells}
use Rattle.bpf_explore.specs.declared.budgets.Budgets.{Budgets}
use Rattle.bpf_explore.specs.declared.budgets.Budgets.TheVariants.{RunOut, Unknown}
use Rattle.bpf_explore.specs.Outcomes.{Found}
use Rattle.bpf_explore.specs.Private.Answers.{AreSorted}
use Rattle.bpf_reorderings.specs.declared.answers.Told.{Told}
use Rattle.bpf_reorderings.specs.Outcomes.{EndsByX86}
use Rattle.bpf_reorderings.specs.Patient.{EndsPatientlyX86}
use Rattle.bpf_reorderings.specs.Private.Searching.{BeginsAt}

-- the answer is an outcome by its own schedule; that of a patient search one in which no job is out of
-- budget
abbrev pub Ends : Bool → World → Names → Bool → Found → Type 0
Ends false w names maps found = EndsByX86 w names maps found
Ends true w names maps found = EndsPatientlyX86 w names maps found

-- so is each
abbrev pub AllEnd : Bool → World → Names → Bool → List Found → Type 0
AllEnd patient w names maps answers = (i : ℕ) (found : Found) → slice_get answers i ≡ Some found
    → Ends patient w names maps found

-- this is printed of all that a machine shows
abbrev pub IsPrinted : BufferedState → Names → Bool → List ℕ → Bool → Type 0
IsPrinted m names maps text stopped = (x : X86) → ShowsX86 m x
    → Tells x.world.store x.world.jobs names maps text stopped

-- what is printed of the i-th kept machine, if it has no work, is one of them
abbrev pub IsAnsweredAt : List BufferedState → Names → Bool → List Found → ℕ → Type 0
IsAnsweredAt kept names maps answers i = (m : BufferedState) → slice_get kept i ≡ Some m
    → HaveEnded m.machine.jobs
    → (k : ℕ) × (found : Found) × (slice_get answers k ≡ Some found)
    × IsPrinted m names maps found.text found.stopped

-- some schedule uses a budget up
abbrev pub CanRunOut : List BufferedState → Type 0
CanRunOut kept = (w : World) → BeginsAt kept w → MayRunOutX86 w

-- the schedule leads to what the i-th shows with the budgets that jobs have; in a patient search it uses
-- none up
abbrev pub LeadsInBudget : Bool → List BufferedState → List (ℕ × ℕ) → ℕ → Type 0
LeadsInBudget patient kept by i = (w : World) → BeginsAt kept w
    → (z : X86) × RunsMoves (drained w) (map move_of (unrolled by)) z
    × Counts patient z.world.jobs × IsShownAt kept i z

-- what is printed of the kept machines below a number; where one isn't, some schedule uses a budget up
pub record Gathered (patient : Bool) (kept : List BufferedState) (names : Names) (maps : Bool)
    (place : ℕ) (told : Told) : Type 0 where
  pub sorted : AreSorted told.answers.items
  pub ends : (w : World) → BeginsAt kept w → AllEnd patient w names maps told.answers.items
  pub answered : told.whole ≡ true → (i : ℕ) → i < place
      → IsAnsweredAt kept names maps told.answers.items i
  pub out : told.whole ≡ false → (patient ≡ true) × CanRunOut kept

-- whether some schedule uses a budget up, where that is known
abbrev pub budgets_found : Bool → Budgets
budgets_found whole = if whole then Unknown else RunOut
