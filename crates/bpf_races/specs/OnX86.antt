-- What the answers of a search say of x86.
use Rattle.std.specs.Prelude.{ℕ, Bool, true, false, List}
use Rattle.bpf_names.specs.Names.{Names}
use Rattle.bpf_machine.specs.Rounds.{HaveEnded}
use Rattle.bpf_machine.specs.Schedule.{World}
use Rattle.bpf_jobs.specs.Printed.{Tells}
use Rattle.bpf_explore.specs.Outcomes.{Found, HaveAll, IsTold}
use Rattle.bpf_explore.specs.Patient.{HaveAllPatient}
use Rattle.bpf_x86.specs.Laws.{Counts, IsSameOnX86}
use Rattle.bpf_x86.specs.Machine.{X86, Move, RunsMoves, drained}

-- some schedule of x86 leads to a machine without work, of which this is printed
abbrev pub IsOutcomeOnX86 : Bool → World → Names → Bool → List ℕ → Bool → Type 0
IsOutcomeOnX86 patient w names maps text stopped = (moves : List Move) × (z : X86)
    × RunsMoves (drained w) moves z × HaveEnded z.world.jobs × Counts patient z.world.jobs
    × Tells z.world.store z.world.jobs names maps text stopped

-- the answers are all outcomes of sequential consistency
abbrev pub AreAllAnswers : Bool → World → Names → Bool → List Found → Type 0
AreAllAnswers false w names maps answers = HaveAll w names maps answers
AreAllAnswers true w names maps answers = HaveAllPatient w names maps answers

-- then they are all of x86 too, where it adds nothing
abbrev pub AnswersHoldOnX86 : Type 0
AnswersHoldOnX86 = (patient : Bool) (w : World) (names : Names) (maps : Bool)
    (answers : List Found) → AreAllAnswers patient w names maps answers → IsSameOnX86 patient w
    → (text : List ℕ) (stopped : Bool) → IsOutcomeOnX86 patient w names maps text stopped
    → IsTold answers text stopped
