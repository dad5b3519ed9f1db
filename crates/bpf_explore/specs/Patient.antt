-- Outcomes in which no job is out of budget.
use Rattle.std.specs.Prelude.{◌≡◌, ℕ, ◌<◌, ◌≤◌, ◌⊎◌, Bool, true, false, List, [], Some, length, slice_get}
use Rattle.std.specs.declared.cmp.Ordering.TheVariants.{Less}
use Rattle.std.specs.Ordering.{nat_cmp}
use Rattle.std.specs.Cmp.Lexicographic.{slice_cmp}
use Rattle.bpf_names.specs.Names.{Names}
use Rattle.bpf_machine.specs.Schedule.{World, RunsSchedule, unrolled}
use Rattle.bpf_machine.specs.Rounds.{HaveEnded}
use Rattle.bpf_machine.specs.Machine.{MachineState}
use Rattle.bpf_machine.specs.Patient.{NoneRanOut, AreRefilled}
use Rattle.bpf_equal.specs.Patient.{LiesBeyondOne}
use Rattle.bpf_machine.specs.Ends.{RunsFreely, CanEnd, IsHung}
use Rattle.bpf_machine.specs.Budgets.{MayRunOut}
use Rattle.bpf_jobs.specs.Printed.{Tells}
use Rattle.bpf_explore.specs.declared.budgets.Budgets.{Budgets}
use Rattle.bpf_explore.specs.declared.budgets.Budgets.TheVariants.{Suffice, RunOut}
use Rattle.bpf_explore.specs.Outcomes.{Found, IsTold}
use Rattle.bpf_explore.specs.Album.{BeginsAt}
use Rattle.bpf_explore.specs.Search.{ShowsEndsInBudget}
use Rattle.bpf_explore.specs.Laws.{IsAnswered}

-- some schedule leads to a machine without work, in which no job is out of budget, and of which this
-- is printed
abbrev pub IsPatientOutcome : World → Names → Bool → List ℕ → Bool → Type 0
IsPatientOutcome w names maps text stopped =
    (schedule : List ℕ) × (z : World) × RunsSchedule w schedule z × HaveEnded z.jobs
    × NoneRanOut z.jobs × Tells z.store z.jobs names maps text stopped

-- none of them is left out
abbrev pub HaveAllPatient : World → Names → Bool → List Found → Type 0
HaveAllPatient w names maps answers = (text : List ℕ) (stopped : Bool)
    → IsPatientOutcome w names maps text stopped → IsTold answers text stopped

-- the answer is one of them, by its own schedule
abbrev pub EndsPatiently : World → Names → Bool → Found → Type 0
EndsPatiently w names maps found =
    (z : World) × RunsSchedule w (unrolled found.by) z × HaveEnded z.jobs × NoneRanOut z.jobs
    × Tells z.store z.jobs names maps found.text found.stopped

-- each answer is one, and they are in the order of their texts' bytes, none twice
pub record ArePatient (w : World) (names : Names) (maps : Bool) (answers : List Found)
    : Type 0 where
  pub each : (i : ℕ) (found : Found) → slice_get answers i ≡ Some found
      → EndsPatiently w names maps found
  pub sorted : (i j : ℕ) (found later : Found) → i < j → slice_get answers i ≡ Some found
      → slice_get answers j ≡ Some later → slice_cmp nat_cmp found.text later.text ≡ Less

-- schedules lead to this many machines, where jobs in hand are given steps on the way. In each of them
-- jobs in hand have their whole budgets left, and no two are the same: so no two differ only in how many
-- steps are left
pub record AreReachedFreely (w : World) (states : ℕ) : Type 0 where
  pub worlds : List World
  pub count : length worlds ≡ states
  pub reached : (i : ℕ) (z : World) → slice_get worlds i ≡ Some z
      → (schedule : List ℕ) × RunsFreely w schedule z × AreRefilled z.jobs
  pub apart : (i j : ℕ) (z : World) → slice_get worlds i ≡ Some z → slice_get worlds j ≡ Some z
      → i ≡ j

-- ---- states from which no end can be reached
-- the schedule leads to one, and no job has run out of budget there
abbrev pub HangsBy : World → List (ℕ × ℕ) → Type 0
HangsBy w by = (z : World) × RunsSchedule w (unrolled by) z × NoneRanOut z.jobs × IsHung z

abbrev pub AreHung : World → List (List (ℕ × ℕ)) → Type 0
AreHung w hung = (i : ℕ) (by : List (ℕ × ℕ)) → slice_get hung i ≡ Some by → HangsBy w by

-- from all that schedules lead to before some job runs out of budget an end can be reached, but for
-- what lies beyond one of these
abbrev pub NoOtherHangs : World → List (List (ℕ × ℕ)) → Type 0
NoOtherHangs w hung = (schedule : List ℕ) (z : World) → RunsSchedule w schedule z → NoneRanOut z.jobs
    → CanEnd z ⊎ LiesBeyondOne w hung z

-- from all of it
abbrev pub NoneHangs : World → Type 0
NoneHangs w = (schedule : List ℕ) (z : World) → RunsSchedule w schedule z → NoneRanOut z.jobs
    → CanEnd z

-- ---- the result of a patient search
-- the answers, whether they are all, whether memory was refused to the search, how many states were kept,
-- hung states, and whether some schedule uses a budget up. Not all are printed only where the states are more
-- than the limit, where memory was refused before, or where it is reported that some schedule does
pub record IsSearchedPatiently (w : World) (names : Names) (maps : Bool)
    (answers : List Found) (all refused : Bool) (limit states : ℕ) (hung : List (List (ℕ × ℕ)))
    (budgets : Budgets) : Type 0 where
  pub outcomes : ArePatient w names maps answers
  pub complete : all ≡ true → HaveAllPatient w names maps answers
  pub counted : AreReachedFreely w states
  pub met : all ≡ false → refused ≡ false → (limit < states) ⊎ (budgets ≡ RunOut)
  pub short : refused ≡ true → (all ≡ false) × (states ≤ limit)
  pub are_hung : AreHung w hung
  pub no_other : all ≡ true → NoOtherHangs w hung
  pub none_hangs : all ≡ true → hung ≡ [] → NoneHangs w
  pub suffice : budgets ≡ Suffice → MayRunOut w → ⊥
  pub run_out : budgets ≡ RunOut → MayRunOut w

-- where kept machines show each end in which no job is out of budget, and what is printed of each of them
-- that has no work is an answer, none of these outcomes is left out
abbrev pub PatientTellAll : Type 0
PatientTellAll =
    (kept : List MachineState) (w : World) (names : Names) (maps : Bool)
    (answers : List Found) → ShowsEndsInBudget kept → BeginsAt kept w
    → ((i : ℕ) (m : MachineState) → slice_get kept i ≡ Some m → HaveEnded m.jobs
    → IsAnswered names maps answers m)
    → HaveAllPatient w names maps answers
