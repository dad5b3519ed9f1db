-- Answers of a patient search while they are found.
use Rattle.std.specs.Prelude.{◌≡◌, ℕ, Bool, List, Some, slice_get}
use Rattle.bpf_names.specs.Names.{Names}
use Rattle.bpf_machine.specs.Machine.{MachineState}
use Rattle.bpf_machine.specs.Patient.{NoneRanOut}
use Rattle.bpf_machine.specs.Schedule.{World, RunsSchedule, unrolled}
use Rattle.bpf_explore.specs.Album.{IsShownAt}
use Rattle.bpf_explore.specs.Outcomes.{Found}
use Rattle.bpf_explore.specs.Patient.{EndsPatiently}
use Rattle.bpf_explore.specs.Private.Answers.{IsFirst}

-- each is an outcome by its own schedule, in which no job is out of budget
abbrev pub AllEndPatiently : World → Names → Bool → List Found → Type 0
AllEndPatiently w names maps answers = (i : ℕ) (found : Found) → slice_get answers i ≡ Some found
    → EndsPatiently w names maps found

-- the schedule leads from what the first kept machine shows to what the i-th shows, and uses no budget
-- up
abbrev pub LeadsInBudget : List MachineState → List (ℕ × ℕ) → ℕ → Type 0
LeadsInBudget kept by i = (w : World) → IsFirst kept w
    → (z : World) × RunsSchedule w (unrolled by) z × NoneRanOut z.jobs × IsShownAt kept i z
