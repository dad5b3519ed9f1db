-- What jobs may reach on CPUs with store buffers, whatever the order of turns and flushes.
use Rattle.std.specs.Prelude.{◌≡◌, ℕ, ◌<◌, ◌≤◌, Bool, true, false, List, Some, length, slice_get}
use Rattle.std.specs.declared.cmp.Ordering.TheVariants.{Less}
use Rattle.std.specs.Ordering.{nat_cmp}
use Rattle.std.specs.Cmp.Lexicographic.{slice_cmp}
use Rattle.bpf_names.specs.Names.{Names}
use Rattle.bpf_machine.specs.Rounds.{HaveEnded}
use Rattle.bpf_machine.specs.Schedule.{World, unrolled}
use Rattle.bpf_x86.specs.Machine.{X86, Move, RunsMoves, drained}
use Rattle.bpf_buffering.specs.Search.{RunsScheduleX86}
use Rattle.bpf_jobs.specs.Printed.{Tells}
use Rattle.bpf_explore.specs.Outcomes.{Found, IsTold}
use Rattle.bpf_explore.specs.declared.exploring.Explored.{Explored}

-- the moves lead to a machine without work, of which this is printed
abbrev pub LeadsToX86 : World → Names → Bool → List Move → List ℕ → Bool → Type 0
LeadsToX86 w names maps moves text stopped =
    (z : X86) × RunsMoves (drained w) moves z × HaveEnded z.world.jobs
    × Tells z.world.store z.world.jobs names maps text stopped

-- some moves do
abbrev pub IsOutcomeX86 : World → Names → Bool → List ℕ → Bool → Type 0
IsOutcomeX86 w names maps text stopped =
    (moves : List Move) × LeadsToX86 w names maps moves text stopped

-- the answer is an outcome by its own schedule, and nothing waits where that ends
abbrev pub EndsByX86 : World → Names → Bool → Found → Type 0
EndsByX86 w names maps found =
    (z : World) × RunsScheduleX86 w (unrolled found.by) (drained z) × HaveEnded z.jobs
    × Tells z.store z.jobs names maps found.text found.stopped

-- each answer is one, and they are in the order of their texts' bytes, none twice
pub record AreOutcomesX86 (w : World) (names : Names) (maps : Bool) (answers : List Found)
    : Type 0 where
  pub each : (i : ℕ) (found : Found) → slice_get answers i ≡ Some found
      → EndsByX86 w names maps found
  pub sorted : (i j : ℕ) (found later : Found) → i < j → slice_get answers i ≡ Some found
      → slice_get answers j ≡ Some later → slice_cmp nat_cmp found.text later.text ≡ Less

-- no outcome is left out
abbrev pub HaveAllX86 : World → Names → Bool → List Found → Type 0
HaveAllX86 w names maps answers = (text : List ℕ) (stopped : Bool)
    → IsOutcomeX86 w names maps text stopped → IsTold answers text stopped

-- schedules lead to this many machines; whether two of them are the same isn't said
pub record AreReachedX86 (w : World) (states : ℕ) : Type 0 where
  pub machines : List X86
  pub count : length machines ≡ states
  pub reached : (i : ℕ) (z : X86) → slice_get machines i ≡ Some z
      → (schedule : List ℕ) × RunsScheduleX86 w schedule z

-- the answers, whether they are all, whether memory was refused to the search, and how many states were
-- kept: not all are printed only where these are more than the limit, or where memory was refused before
pub record IsExploredX86 (w : World) (names : Names) (maps : Bool) (limit : ℕ) (e : Explored)
    : Type 0 where
  pub outcomes : AreOutcomesX86 w names maps e.answers.items
  pub complete : e.all ≡ true → HaveAllX86 w names maps e.answers.items
  pub counted : AreReachedX86 w e.states
  pub met : e.all ≡ false → e.refused ≡ false → limit < e.states
  pub short : e.refused ≡ true → (e.all ≡ false) × (e.states ≤ limit)
