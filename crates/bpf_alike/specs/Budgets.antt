-- Whether some schedule uses a budget up, by kept machines that show worlds but for dead registers.
use Rattle.std.specs.Prelude.{◌≡◌, ℕ, ◌+◌, ◌<◌, ◌≤◌, ◌⊎◌, List, Some, slice_get}
use Rattle.bpf_cpu.specs.Task.{Task}
use Rattle.bpf_machine.specs.Budgets.{depth_at}
use Rattle.bpf_machine.specs.Cover.{IsShown, TurnsAhead}
use Rattle.bpf_machine.specs.Hands.{IsFree, NoneWaits}
use Rattle.bpf_machine.specs.Laws.{IsFresh}
use Rattle.bpf_machine.specs.Machine.{MachineState}
use Rattle.bpf_machine.specs.Patient.{NoneRanOut}
use Rattle.bpf_machine.specs.Schedule.{RunsSchedule, World}
use Rattle.bpf_alike.specs.Ends.{IsKeptAlikeRichlyAt}

-- the CPU's turn, with n turns of it that no store sees, leads from the i-th to one that is deeper by
-- more than n
abbrev pub LeadsDeeperAlike : List MachineState → List ℕ → ℕ → MachineState → ℕ → Type 0
LeadsDeeperAlike kept depths i m c = (new : MachineState) × (k : ℕ) × (n : ℕ)
    × TurnsAhead m c n new × IsKeptAlikeRichlyAt kept k new
    × (depth_at depths i + n + 1 ≤ depth_at depths k)

-- the i-th is less deep than each budget, and each CPU with work leads deeper
pub record IsSparingAlike (kept : List MachineState) (depths : List ℕ) (least i : ℕ)
    (m : MachineState) : Type 0 where
  pub depth : depth_at depths i < least
  pub budgets : (j : ℕ) (task : Task) → slice_get m.jobs j ≡ Some task → least ≤ task.budget
  pub turns : (c : ℕ)
      → (IsFree m.jobs c × NoneWaits m.jobs c) ⊎ LeadsDeeperAlike kept depths i m c

abbrev pub AreSparingAlike : List MachineState → List ℕ → ℕ → Type 0
AreSparingAlike kept depths least = (i : ℕ) (m : MachineState) → slice_get kept i ≡ Some m
    → IsSparingAlike kept depths least i m

-- where all are, no schedule uses a budget up
abbrev pub AlikeBudgetsSuffice : Type 0
AlikeBudgetsSuffice =
    (kept : List MachineState) (depths : List ℕ) (least : ℕ) (w z : World)
    (schedule : List ℕ)
    → AreSparingAlike kept depths least → IsFresh w → IsShown kept w
    → RunsSchedule w schedule z → NoneRanOut z.jobs
