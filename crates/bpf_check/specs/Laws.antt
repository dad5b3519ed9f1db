-- What follows for verdicts.
use Rattle.std.specs.Prelude.{◌≡◌, ℕ, true, false, List, [], Some, slice_get}
use Rattle.bpf_names.specs.Names.{Names}
use Rattle.bpf_machine.specs.Schedule.{World}
use Rattle.bpf_explore.specs.Outcomes.{AreOutcomes, EndsBy, HaveAll}
use Rattle.bpf_explore.specs.Patient.{AreHung, ArePatient, EndsPatiently, HaveAllPatient, NoneHangs}
use Rattle.bpf_check.specs.Expectation.{Expected, asks_of_races, expectations_of}
use Rattle.bpf_check.specs.Faults.{IsTrueFault, unexpected_fault}
use Rattle.bpf_check.specs.Findings.{Findings}
use Rattle.bpf_check.specs.Subjects.{Subjects}
use Rattle.bpf_check.specs.Verdict.{AreTrueEnds, AreTrueRaces, IsOutcomeText, IsPatientText, IsTruePatiently, IsTrueVerdict, ends_verdict, verdict_of}

-- where answers are outcomes, no outcome is left out if they are said to be all, and what was found of
-- races is so if it is asked of them, each verdict is true but on what is expected of CPUs with store buffers
-- alone
abbrev pub VerdictsAreTrue : Type 0
VerdictsAreTrue =
    (w : World) (names : Names) (f : Findings) (e : Expected) → e.x86 ≡ false → f.patient ≡ false
    → AreOutcomes w names true f.answers → (f.all ≡ true → HaveAll w names true f.answers)
    → (asks_of_races e.often e.line ≡ true → AreTrueRaces w f)
    → IsTrueVerdict w names f e (verdict_of f e)

-- what a patient search promises of its findings
pub record ArePatientFindings (w : World) (names : Names) (f : Findings) : Type 0 where
  pub patient : f.patient ≡ true
  pub outcomes : ArePatient w names true f.answers
  pub complete : f.all ≡ true → HaveAllPatient w names true f.answers
  pub are_hung : AreHung w f.hung
  pub none_hangs : f.all ≡ true → f.hung ≡ [] → NoneHangs w

-- the same of outcomes in which no job is out of budget, and of whether each schedule can end
abbrev pub PatientVerdictsAreTrue : Type 0
PatientVerdictsAreTrue =
    (w : World) (names : Names) (f : Findings) → ArePatientFindings w names f
    → AreTrueEnds w f (ends_verdict f)
    × ((e : Expected) → e.x86 ≡ false → (asks_of_races e.often e.line ≡ true → AreTrueRaces w f)
    → IsTruePatiently w names f e (verdict_of f e))

-- where CPUs have no store buffers, nothing is tested that is expected of CPUs with such alone
abbrev pub PlainTestsArePlain : Type 0
PlainTestsArePlain = (s : Subjects) (text : List ℕ) (i : ℕ) (e : Expected) → s.x86 ≡ false
    → slice_get (expectations_of s text) i ≡ Some e → e.x86 ≡ false

-- a fault that isn't expected is one of an outcome; where there is none, though something is expected and
-- nothing of faults, no outcome has one
abbrev pub FaultsAreTrue : Type 0
FaultsAreTrue =
    (w : World) (names : Names) (f : Findings) (expected : List Expected)
    → AreOutcomes w names true f.answers → (f.all ≡ true → HaveAll w names true f.answers)
    → IsTrueFault (IsOutcomeText w names) (EndsBy w names true) f expected
    (unexpected_fault f expected)

-- so it is of outcomes in which no job is out of budget
abbrev pub PatientFaultsAreTrue : Type 0
PatientFaultsAreTrue =
    (w : World) (names : Names) (f : Findings) (expected : List Expected)
    → ArePatientFindings w names f
    → IsTrueFault (IsPatientText w names) (EndsPatiently w names true) f expected
    (unexpected_fault f expected)
