-- Verdicts by the outcomes of CPUs with store buffers in which no job is out of budget are true.
use Rattle.std.proofs.Common.{◌≡◌, ◌∙◌, ℕ, Bool, true, List, [], Ok, refl, subst, sym, map}
use Rattle.std.specs.Prelude.{slice_get}
use Rattle.bpf_names.specs.Names.{Names}
use Rattle.bpf_machine.specs.Schedule.{World, unrolled}
use Rattle.bpf_x86.specs.Machine.{drained}
use Rattle.bpf_buffering.specs.Search.{move_of}
use Rattle.bpf_explore.specs.Outcomes.{Found}
use Rattle.bpf_explore.specs.declared.exploring.ExploredPatiently.{ExploredPatiently}
use Rattle.bpf_check.specs.Expectation.{Expected}
use Rattle.bpf_check.specs.Faults.{are_faults_unexpected}
use Rattle.bpf_check.specs.Findings.{Findings}
use Rattle.bpf_check.specs.Verdict.{IsTrueOf, decides, is_empty, outcome_verdict}
use Rattle.bpf_check.proofs.Verdicts.{asked, by_silence, decided, finds, true_ends}
use Rattle.bpf_file.specs.File.{File}
use Rattle.bpf_file.specs.Reading.{IsRunFile}
use Rattle.bpf_reorderings.specs.Patient.{AreHungX86, ArePatientX86, EndsPatientlyX86, HangsByX86, HaveAllPatientX86, IsExploredPatientlyX86, NoneHangsX86}
use Rattle.bpf_replies.specs.Laws.{ArePatientFindingsX86, IsPatientTextX86, PatientFaultsOnX86AreTrue, PatientVerdictsOnX86AreTrue, TestsOnX86RestOnSearches}
use Rattle.bpf_replies.specs.Script.{first_world_of}

-- an answer by its own schedule is an outcome
tells : (w : World) (names : Names) (found : Found) → EndsPatientlyX86 w names true found → IsPatientTextX86 w names found.text
tells w names found (z, runs, ended, none, told) =
    (found.stopped, (map move_of (unrolled found.by), drained z, runs, ended, none, told))

patiently : (w : World) (names : Names) (f : Findings) (e : Expected) → ArePatientFindingsX86 w names f
    → IsTrueOf (IsPatientTextX86 w names) (EndsPatientlyX86 w names true) f e (outcome_verdict f e)
patiently w names f e are =
    decided (IsPatientTextX86 w names) (EndsPatientlyX86 w names true) f e (tells w names) are.outcomes.each
    e.often _ f.all (is_empty f.answers) refl refl (λ whole text is. let there = are.complete whole text is.0 is.1 in (there.0, there.1, there.2, there.3))
    (finds (λ found. decides e found.text) f.answers)

hangs : (w : World) (by : List (ℕ × ℕ)) → HangsByX86 w by → NoneHangsX86 w → ⊥
hangs w by (z, runs, none, hung) ends = hung (ends (map move_of (unrolled by)) z runs none)

pub patient_verdicts_on_x86_true : PatientVerdictsOnX86AreTrue
patient_verdicts_on_x86_true w names f are = (
  true_ends (NoneHangsX86 w) (HangsByX86 w) f are.are_hung are.none_hangs (hangs w),
  (λ e raced. asked (NoneHangsX86 w) (HangsByX86 w) f are.are_hung are.none_hangs (hangs w) (IsPatientTextX86 w names) (EndsPatientlyX86 w names true) e
      (patiently w names f e are) w are.patient raced),
)

pub patient_faults_on_x86_true : PatientFaultsOnX86AreTrue
patient_faults_on_x86_true w names f expected are =
    by_silence (IsPatientTextX86 w names) (EndsPatientlyX86 w names true) f expected are.outcomes.each
    (λ all text is. let there = are.complete all text is.0 is.1 in (there.0, there.1, there.2, there.3))
    (are_faults_unexpected expected) refl

-- what a search promises of its answers, it promises of what tests rest on
kept : (w : World) (names : Names) (limit : ℕ) (f : Findings) (e : ExploredPatiently) → IsExploredPatientlyX86 w names true limit e → f.patient ≡ true
    → f.answers ≡ e.answers.items → f.all ≡ e.all → f.hung ≡ e.hung.items → ArePatientFindingsX86 w names f
kept w names limit f e explored exactly answers all hung = record {
  patient = exactly;
  outcomes = subst (ArePatientX86 w names true) (sym answers) explored.outcomes;
  complete = λ whole. subst (HaveAllPatientX86 w names true) (sym answers) (explored.complete (sym all ∙ whole));
  are_hung = subst (AreHungX86 w) (sym hung) explored.are_hung;
  none_hangs = λ whole none. explored.none_hangs (sym all ∙ whole) (sym hung ∙ none);
}

pub tests_on_x86_rest : TestsOnX86RestOnSearches
tests_on_x86_rest limit text f (exactly, (e, (file, said, explored), answers, all, states, hung)) =
    (file, said, kept (first_world_of file) file.names limit f e explored exactly answers all hung)
