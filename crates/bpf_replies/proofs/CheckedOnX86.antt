-- Verdicts by the outcomes of CPUs with store buffers are true.
use Rattle.std.proofs.Common.{◌≡◌, Bool, true, cond, sym, subst, refl, map}
use Rattle.std.specs.Prelude.{◌&&◌}
use Rattle.bpf_names.specs.Names.{Names}
use Rattle.bpf_machine.specs.Schedule.{World, unrolled}
use Rattle.bpf_x86.specs.Machine.{drained}
use Rattle.bpf_buffering.specs.Search.{move_of}
use Rattle.bpf_explore.specs.Outcomes.{Found}
use Rattle.bpf_check.specs.declared.judging.Verdict.{Verdict}
use Rattle.bpf_check.specs.Expectation.{Expected, asks_ends, asks_hung}
use Rattle.bpf_check.specs.Faults.{are_faults_unexpected}
use Rattle.bpf_check.specs.Findings.{Findings}
use Rattle.bpf_check.specs.Verdict.{IsTrueOf, decides, ends_verdict, hung_verdict, is_empty, outcome_verdict, races_verdict}
use Rattle.bpf_check.proofs.Verdicts.{by_silence, decided, finds}
use Rattle.bpf_reorderings.specs.Outcomes.{AreOutcomesX86, EndsByX86, HaveAllX86, LeadsToX86}
use Rattle.bpf_replies.specs.Laws.{FaultsOnX86AreTrue, IsOutcomeTextX86, VerdictsOnX86AreTrue}

-- an answer by its own schedule is an outcome
tells : (w : World) (names : Names) (found : Found) → EndsByX86 w names true found → IsOutcomeTextX86 w names found.text
tells w names found (z, runs, ended, told) =
    let leads : LeadsToX86 w names true (map move_of (unrolled found.by)) found.text found.stopped = (drained z, runs, ended, told) in
    (found.stopped, (map move_of (unrolled found.by), leads))

exact : (w : World) (names : Names) (f : Findings) (e : Expected) → AreOutcomesX86 w names true f.answers
    → (f.all ≡ true → HaveAllX86 w names true f.answers) → IsTrueOf (IsOutcomeTextX86 w names) (EndsByX86 w names true) f e (outcome_verdict f e)
exact w names f e are have =
    decided (IsOutcomeTextX86 w names) (EndsByX86 w names true) f e (tells w names) are.each
    e.often _ f.all (is_empty f.answers) refl refl (λ whole text is. let there = have whole text is.0 is.1 in (there.0, there.1, there.2, there.3))
    (finds (λ found. decides e found.text) f.answers)

pub verdicts_on_x86_true : VerdictsOnX86AreTrue
verdicts_on_x86_true w names f e exactly are have silent =
    let IsTrue : Verdict → Type 0 = IsTrueOf (IsOutcomeTextX86 w names) (EndsByX86 w names true) f e in
    let rest : Bool → Verdict = λ patient. cond (patient && asks_ends e.often e.line) (ends_verdict f)
    (cond (patient && asks_hung e.often e.line) (hung_verdict f) (outcome_verdict f e)) in
    subst (λ (races : Bool). IsTrue (cond races (races_verdict f e.often) (rest f.patient))) (sym silent)
    (subst (λ (patient : Bool). IsTrue (rest patient)) (sym exactly) (exact w names f e are have))

pub faults_on_x86_true : FaultsOnX86AreTrue
faults_on_x86_true w names f expected are have =
    by_silence (IsOutcomeTextX86 w names) (EndsByX86 w names true) f expected are.each
    (λ all text is. let there = have all text is.0 is.1 in (there.0, there.1, there.2, there.3))
    (are_faults_unexpected expected) refl
