-- What is printed of a fault: the state from which its step was made.
use Rattle.std.specs.Prelude.{◌≡◌, ◌⊎◌, ℕ, List, Some, length, slice_get}
use Rattle.std.specs.List.{Contains}
use Rattle.bpf_cpu.specs.declared.cpu.Cpu.{Cpu}
use Rattle.bpf_cpu.specs.declared.input.Input.{Input}
use Rattle.bpf_cpu.specs.declared.outcome.Fault.{Fault}
use Rattle.bpf_machine.specs.declared.machine.Turn.TheVariants as turn
use Rattle.bpf_cpu.specs.declared.outcome.Outcome.TheVariants as outcome
use Rattle.bpf_cpu.specs.State.{start}
use Rattle.bpf_cpu.specs.Task.{Task, Waiting, InHand, outcome_at}
use Rattle.bpf_machine.specs.Hands.{IsAt}
use Rattle.bpf_machine.specs.Schedule.{World, TakesTurn, RunsSchedule}
use Rattle.bpf_machine.specs.Rounds.{below, RunsRounds, RunsToEnd}
use Rattle.bpf_machine.specs.Machine.{MachineState, Shows}
use Rattle.bpf_faults.specs.declared.evidence.Evidence.{Evidence}
use Rattle.bpf_faults.specs.declared.evidence.Seen.{Seen}
use Rattle.bpf_faults.specs.declared.evidence.Sizes.{Sizes}

-- this is what is shown of the state
abbrev pub IsSeen : Cpu → Seen → Type 0
IsSeen state seen =
    (seen.registers ≡ state.registers) × (seen.frames ≡ length state.memory.frames.live)
    × (seen.context ≡ length state.memory.context) × (seen.packet ≡ length state.memory.packet)
    × (seen.held.items ≡ state.held)

-- the state from which the CPU makes its next step of the job: the one in hand; or the first, of a
-- job that waits
abbrev pub IsBefore : List Task → ℕ → ℕ → Cpu → Type 0
IsBefore jobs cpu j state =
    ((task : Task) × (left : ℕ) × IsAt jobs cpu j task (InHand state left))
    ⊎ ((task : Task) × (input : Input) × IsAt jobs cpu j task (Waiting input)
    × (state ≡ start cpu input))

-- here the CPU's turn ends the job in its fault, and the evidence shows the state before that turn
abbrev pub IsEvidenceAt : World → Evidence → Type 0
IsEvidenceAt w evidence =
    ((z : World) × TakesTurn w evidence.cpu
    (turn.Ended evidence.job (outcome.Fault evidence.fault evidence.pc)) z)
    × (state : Cpu) × IsBefore w.jobs evidence.cpu evidence.job state × IsSeen state evidence.seen

-- so it is in the round that begins here, after the turns of the CPUs below the evidence's
abbrev pub IsEvidenceIn : World → Evidence → Type 0
IsEvidenceIn w evidence =
    (v : World) × RunsSchedule w (below evidence.cpu) v × IsEvidenceAt v evidence

-- so it is in a round of the run that begins here
abbrev pub IsEvidenceOf : World → Evidence → Type 0
IsEvidenceOf w evidence = (n : ℕ) × (m : World) × RunsRounds n w m × IsEvidenceIn m evidence

-- the job's fault at this pc has its evidence among these
abbrev pub HasEvidence : List Evidence → (job : ℕ) → Fault → (pc : ℕ) → Type 0
HasEvidence evidence job fault pc = (one : Evidence) × Contains evidence one
    × (one.job ≡ job) × (one.fault ≡ fault) × (one.pc ≡ pc)

-- each job that ended in a fault has its evidence
abbrev pub HaveEvidence : List Task → List Evidence → Type 0
HaveEvidence jobs evidence = (j : ℕ) (fault : Fault) (pc : ℕ)
    → outcome_at jobs j ≡ Some (outcome.Fault fault pc) → HasEvidence evidence j fault pc

-- rounds until no CPU has work lead from this world to the machine, and each job that ended there
-- in a fault has its evidence
abbrev pub LeavesNoneOut : World → MachineState → List Evidence → Type 0
LeavesNoneOut w machine evidence =
    (z : World) × RunsToEnd w z × Shows machine z × HaveEvidence z.jobs evidence

-- how many bytes a job is given
abbrev pub sizes_of : Input → Sizes
sizes_of input = record { context = length input.context; packet = length input.packet }

-- how many bytes each waiting job is given
abbrev pub AreSizes : List Task → List Sizes → Type 0
AreSizes jobs sizes =
    (j : ℕ) (task : Task) (input : Input) → slice_get jobs j ≡ Some task
    → task.stage ≡ Waiting input → slice_get sizes j ≡ Some (sizes_of input)
