-- What a job's stage is saved as: bytes that determine it of a job whose CPU is known, and what it is
-- given.
use Rattle.std.specs.Prelude.{◌≡◌, ℕ, List, [], ◌∷◌, ◌++◌}
use Rattle.bpf_mem.specs.Saved.{IsWord, words_saved}
use Rattle.bpf_helpers.specs.Saved.{AreOnce, MayBeHeld}
use Rattle.bpf_cpu.specs.declared.cpu.Cpu.{Cpu}
use Rattle.bpf_cpu.specs.declared.input.Input.{Input}
use Rattle.bpf_cpu.specs.Input.{no_input}
use Rattle.bpf_cpu.specs.Saved.{IsOfOneJob, IsSavableOutcome, IsSavableState, cpu_saved, outcome_saved}
use Rattle.bpf_cpu.specs.State.{start}
use Rattle.bpf_cpu.specs.Task.{Stage, Task, Waiting, InHand, Ended}

-- it waits; it is in hand, with this many steps left; it has ended
abbrev pub stage_saved : Stage → List ℕ
stage_saved (Waiting input) = 0 ∷ []
stage_saved (InHand state left) = 1 ∷ words_saved 0 (left ∷ []) ++ cpu_saved state
stage_saved (Ended outcome) = 2 ∷ outcome_saved outcome

-- the state is one of a job on this CPU that was given this: the CPU, the length of its context, and
-- what else it was given
abbrev pub IsOfJob : ℕ → Input → Cpu → Type 0
IsOfJob cpu input state = IsOfOneJob (start cpu input) state

-- a stage of a job on this CPU that is given this, made of words
abbrev pub IsSavableStage : ℕ → Input → Stage → Type 0
IsSavableStage cpu input (Waiting own) = own ≡ input
IsSavableStage cpu input (InHand state left) =
    IsWord left × IsOfJob cpu input state × IsSavableState state
IsSavableStage cpu input (Ended outcome) = IsSavableOutcome outcome

-- where it is in hand, a run may hold the values that its run holds
abbrev pub HoldsWhatMayBe : Stage → Type 0
HoldsWhatMayBe (Waiting input) = Unit {0}
HoldsWhatMayBe (InHand state left) = MayBeHeld state.held
HoldsWhatMayBe (Ended outcome) = Unit {0}

-- the stage is one of a job on this CPU that was given this
abbrev pub IsStageOf : ℕ → Input → Stage → Type 0
IsStageOf cpu input (Waiting own) = own ≡ input
IsStageOf cpu input (InHand state left) = IsOfJob cpu input state
IsStageOf cpu input (Ended outcome) = Unit {0}

-- its numbers are words, and where it is in hand, its run holds each value once
abbrev pub FitsBytes : Stage → Type 0
FitsBytes (Waiting input) = Unit {0}
FitsBytes (InHand state left) = IsWord left × IsSavableState state × AreOnce state.held
FitsBytes (Ended outcome) = IsSavableOutcome outcome

-- ---- all jobs of a machine
-- one after the other
abbrev pub jobs_saved : List Task → List ℕ
jobs_saved [] = []
jobs_saved (task ∷ jobs) = stage_saved task.stage ++ jobs_saved jobs

-- what a job that waits is given
abbrev pub input_of : Stage → Input
input_of (Waiting input) = input
input_of (InHand state left) = no_input
input_of (Ended outcome) = no_input

-- the job is one that waited first, in some stage of it
pub record IsLater (first task : Task) : Type 0 where
  pub cpu : task.cpu ≡ first.cpu
  pub program : task.program ≡ first.program
  pub budget : task.budget ≡ first.budget
  pub stage : IsSavableStage first.cpu (input_of first.stage) task.stage

-- each is, of jobs in the same order
abbrev pub AreLater : List Task → List Task → Type 0
AreLater [] [] = Unit {0}
AreLater (first ∷ firsts) (task ∷ jobs) = IsLater first task × AreLater firsts jobs
AreLater _ _ = ⊥

-- the job is one that waited first, whether its numbers are words or not
pub record ComesFrom (first task : Task) : Type 0 where
  pub cpu : task.cpu ≡ first.cpu
  pub program : task.program ≡ first.program
  pub budget : task.budget ≡ first.budget
  pub stage : IsStageOf first.cpu (input_of first.stage) task.stage

-- each is, of jobs in the same order
abbrev pub ComeFrom : List Task → List Task → Type 0
ComeFrom [] [] = Unit {0}
ComeFrom (first ∷ firsts) (task ∷ jobs) = ComesFrom first task × ComeFrom firsts jobs
ComeFrom _ _ = ⊥

-- whatever jobs they come from, these come from the same
abbrev pub ComeFromSame : List Task → List Task → Type 0
ComeFromSame old new = (first : List Task) → ComeFrom first old → ComeFrom first new

-- each holds, where it is in hand, what a run may hold
abbrev pub HoldWhatMayBe : List Task → Type 0
HoldWhatMayBe [] = Unit {0}
HoldWhatMayBe (task ∷ jobs) = HoldsWhatMayBe task.stage × HoldWhatMayBe jobs
