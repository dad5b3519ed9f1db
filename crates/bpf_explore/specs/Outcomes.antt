-- What jobs may reach, whatever the order of the CPUs' turns.
use Rattle.std.specs.Prelude.{◌≡◌, ℕ, ◌<◌, ◌≤◌, Bool, true, false, List, Some, length, slice_get}
use Rattle.std.specs.declared.cmp.Ordering.TheVariants.{Less}
use Rattle.std.specs.Ordering.{nat_cmp}
use Rattle.std.specs.Cmp.Lexicographic.{slice_cmp}
use Rattle.bpf_names.specs.Names.{Names}
use Rattle.bpf_machine.specs.Schedule.{World, RunsSchedule, unrolled}
use Rattle.bpf_machine.specs.Rounds.{HaveEnded}
use Rattle.bpf_jobs.specs.Printed.{Tells}

-- the schedule leads to a machine without work, of which this is printed
abbrev pub LeadsTo : World → Names → Bool → List ℕ → List ℕ → Bool → Type 0
LeadsTo w names maps schedule text stopped =
    (z : World) × RunsSchedule w schedule z × HaveEnded z.jobs
    × Tells z.store z.jobs names maps text stopped

-- some schedule does
abbrev pub IsOutcome : World → Names → Bool → List ℕ → Bool → Type 0
IsOutcome w names maps text stopped =
    (schedule : List ℕ) × LeadsTo w names maps schedule text stopped

-- ---- answers

-- what is printed, whether some job ended in a fault or out of budget, and a schedule: CPUs, each with
-- how many turns it makes before the next
pub record Found : Type 0 where
  pub text : List ℕ
  pub stopped : Bool
  pub by : List (ℕ × ℕ)

-- the answer is an outcome, by its own schedule
abbrev pub EndsBy : World → Names → Bool → Found → Type 0
EndsBy w names maps found = LeadsTo w names maps (unrolled found.by) found.text found.stopped

-- each answer is one, and they are in the order of their texts' bytes, none twice
pub record AreOutcomes (w : World) (names : Names) (maps : Bool) (answers : List Found)
    : Type 0 where
  pub each : (i : ℕ) (found : Found) → slice_get answers i ≡ Some found → EndsBy w names maps found
  pub sorted : (i j : ℕ) (found later : Found) → i < j → slice_get answers i ≡ Some found
      → slice_get answers j ≡ Some later → slice_cmp nat_cmp found.text later.text ≡ Less

-- this is printed by one of them
abbrev pub IsTold : List Found → List ℕ → Bool → Type 0
IsTold answers text stopped = (i : ℕ) × (found : Found) × (slice_get answers i ≡ Some found)
    × (found.text ≡ text) × (found.stopped ≡ stopped)

-- no outcome is left out
abbrev pub HaveAll : World → Names → Bool → List Found → Type 0
HaveAll w names maps answers = (text : List ℕ) (stopped : Bool) → IsOutcome w names maps text stopped
    → IsTold answers text stopped

-- schedules lead to this number of machines, of which no two are the same
pub record AreReached (w : World) (states : ℕ) : Type 0 where
  pub worlds : List World
  pub count : length worlds ≡ states
  pub reached : (i : ℕ) (z : World) → slice_get worlds i ≡ Some z
      → (schedule : List ℕ) × RunsSchedule w schedule z
  pub apart : (i j : ℕ) (z : World) → slice_get worlds i ≡ Some z → slice_get worlds j ≡ Some z
      → i ≡ j

-- the answers, whether they are all, whether memory was refused to the search, and how many states were
-- kept: not all are printed only where these are more than the limit, or where memory was refused before
pub record IsExplored (w : World) (names : Names) (maps : Bool) (answers : List Found)
    (all refused : Bool) (limit states : ℕ) : Type 0 where
  pub outcomes : AreOutcomes w names maps answers
  pub complete : all ≡ true → HaveAll w names maps answers
  pub counted : AreReached w states
  pub met : all ≡ false → refused ≡ false → limit < states
  pub short : refused ≡ true → (all ≡ false) × (states ≤ limit)
