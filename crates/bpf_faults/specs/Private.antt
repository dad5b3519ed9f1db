-- What a run that is watched keeps true.
use Rattle.std.specs.Prelude.{◌≡◌, ◌⊎◌, ◌<◌, ◌++◌, ℕ, Bool, true, false, List, Option, Some, None, All}
use Rattle.bpf_cpu.specs.declared.cpu.Cpu.{Cpu}
use Rattle.bpf_cpu.specs.declared.outcome.Fault.{Fault}
use Rattle.bpf_machine.specs.declared.machine.Turn.{Turn}
use Rattle.bpf_machine.specs.declared.machine.Turn.TheVariants as turn
use Rattle.bpf_cpu.specs.declared.outcome.Outcome.TheVariants as outcome
use Rattle.bpf_cpu.specs.Task.{Task, InHand}
use Rattle.bpf_machine.specs.Hands.{IsAt, IsFree, NoneWaits}
use Rattle.bpf_machine.specs.Work.{HasInHand, IsNext}
use Rattle.bpf_machine.specs.Schedule.{World, TakesTurn}
use Rattle.bpf_machine.specs.Machine.{MachineState, Shows}
use Rattle.bpf_faults.specs.declared.evidence.Evidence.{Evidence}
use Rattle.bpf_faults.specs.declared.evidence.Seen.{Seen}
use Rattle.bpf_faults.specs.declared.evidence.Sizes.{Sizes}
use Rattle.bpf_faults.specs.Evidence.{AreSizes, HasEvidence, HaveEvidence, IsBefore, IsEvidenceAt, IsSeen}

-- the CPU has this job in hand, or is to begin it
abbrev pub IsToRun : List Task → ℕ → ℕ → Type 0
IsToRun jobs cpu j = HasInHand jobs cpu j ⊎ IsNext jobs cpu j

-- the state before the CPU's next step of this job is seen; or the CPU has no work
abbrev pub SeesNext : List Task → ℕ → Seen → Option ℕ → Type 0
SeesNext jobs cpu seen None = IsFree jobs cpu × NoneWaits jobs cpu
SeesNext jobs cpu seen (Some j) =
    (state : Cpu) × IsBefore jobs cpu j state × IsSeen state seen × IsToRun jobs cpu j

-- no CPU has two jobs in hand
abbrev pub HaveOneInHand : List Task → Type 0
HaveOneInHand jobs = (c j k : ℕ) (task other : Task) (state now : Cpu) (left rest : ℕ)
    → IsAt jobs c j task (InHand state left) → IsAt jobs c k other (InHand now rest) → j ≡ k

-- what turns that are watched leave true of the jobs
pub record AreWatched (jobs : List Task) (sizes : List Sizes) (evidence : List Evidence)
    : Type 0 where
  pub known : AreSizes jobs sizes
  pub one : HaveOneInHand jobs
  pub have : HaveEvidence jobs evidence

-- evidence of which this holds follows the rest
abbrev pub AddsEvidence : (Evidence → Type 0) → List Evidence → List Evidence → Type 0
AddsEvidence P old new = (added : List Evidence) × (new ≡ old ++ added) × All P added

-- it is of this CPU's turn, which was answered so and came to an end of this job
abbrev pub IsEvidenceOfTurn : ℕ → Option ℕ → Turn → Seen → Evidence → Type 0
IsEvidenceOfTurn cpu job answer seen evidence =
    (job ≡ Some evidence.job) × (evidence.cpu ≡ cpu)
    × (answer ≡ turn.Ended evidence.job (outcome.Fault evidence.fault evidence.pc))
    × ((state : Cpu) → IsSeen state seen → IsSeen state evidence.seen)

-- it is the evidence of this CPU's turn
abbrev pub IsEvidenceOn : World → ℕ → Evidence → Type 0
IsEvidenceOn w cpu evidence = (evidence.cpu ≡ cpu) × IsEvidenceAt w evidence

-- whether the turn was one of a CPU with work
abbrev pub works : Turn → Bool
works turn.Idle = false
works _ = true

-- a turn that ended a job in a fault has its evidence among these
abbrev pub HasEvidenceOf : Turn → List Evidence → Type 0
HasEvidenceOf answer evidence = (j : ℕ) (fault : Fault) (pc : ℕ)
    → answer ≡ turn.Ended j (outcome.Fault fault pc) → HasEvidence evidence j fault pc

-- the CPU takes a turn, and its evidence is added if it has one; whether it had work
abbrev pub Watches : MachineState → ℕ → List Evidence → Bool → MachineState → List Evidence
    → Type 0
Watches old cpu before busy new evidence =
    (busy ≡ false → new ≡ old) × ((w : World) → Shows old w
    → ((answer : Turn) × (z : World) × TakesTurn w cpu answer z × Shows new z
    × (busy ≡ works answer) × HasEvidenceOf answer evidence)
    × AddsEvidence (IsEvidenceOn w cpu) before evidence)

-- no CPU of the store has work
abbrev pub HasNoWork : World → Type 0
HasNoWork w =
    (c : ℕ) → c < w.store.shape.cpus → IsFree w.jobs c × NoneWaits w.jobs c
