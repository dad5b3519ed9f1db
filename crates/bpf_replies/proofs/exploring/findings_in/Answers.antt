use Rattle.std.proofs.Common.{Bool, true, refl, subst, sym, ℕ}
use Rattle.bpf_replies.specs.Exploring.{AreFindingsBy, ArePatientAnswersTo}
use Rattle.bpf_replies.proofs.exploring.findings_in.Goals as goal

pub returns-clause-found : goal.returns-clause-found
returns-clause-found g c =
    let o = c.args.options.now in
    let e = c.in_ok-explored-2.explored in
    let text = c.args.text.now in
    let found = subst (λ (n : ℕ). ArePatientAnswersTo text e.answers.items e.all n e.states e.hung.items e.budgets)
    c.scope_of-scope.ensures.limit c.in_ok-explored-2.ensures.found in
    let is = subst (AreFindingsBy true o.limit text) (sym c.patient.ensures) (refl, (e.budgets, found)) in
    subst (λ (p : Bool). AreFindingsBy p o.limit text c.patient.result) (sym c.if-not-options.false) is
