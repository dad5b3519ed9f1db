use Rattle.std.proofs.Common.{◌≡◌, ℕ, List, Bool, true, false, ap}
use Rattle.bpf_check.specs.Findings.{Findings}
use Rattle.bpf_explore.specs.declared.exploring.Explored.{Explored}
use Rattle.bpf_explore.specs.declared.exploring.ExploredPatiently.{ExploredPatiently}
use Rattle.bpf_replies.specs.Reordering.{AreAnswersOnX86, AreFindingsOnX86, ArePatientAnswersOnX86}
use Rattle.bpf_replies.proofs.reordering.findings_with_buffers.Goals as goal

-- what a search that isn't patient found is what tests rest on, and what one found that is
found_plainly : (patient : Bool) (limit : ℕ) (text : List ℕ) (f : Findings) (e : Explored) → patient ≡ false → f.patient ≡ false
    → AreAnswersOnX86 text limit e → f.answers ≡ e.answers.items → f.all ≡ e.all → f.states ≡ e.states → AreFindingsOnX86 patient limit text f
found_plainly false limit text f e is exactly found answers all states = (exactly, (e, found, answers, all, states))
found_plainly true limit text f e is exactly found answers all states = let no : true ≡ false = is in absurd cc

found_patiently : (patient : Bool) (limit : ℕ) (text : List ℕ) (f : Findings) (e : ExploredPatiently) → patient ≡ true → f.patient ≡ true
    → ArePatientAnswersOnX86 text limit e → f.answers ≡ e.answers.items → f.all ≡ e.all → f.states ≡ e.states → f.hung ≡ e.hung.items
    → AreFindingsOnX86 patient limit text f
found_patiently true limit text f e is exactly found answers all states hung = (exactly, (e, found, answers, all, states, hung))
found_patiently false limit text f e is exactly found answers all states hung = let no : false ≡ true = is in absurd cc

pub returns-then-not-options-clause-found : goal.returns-then-not-options-clause-found
returns-then-not-options-clause-found g c =
    let o = c.args.options.now in
    let made = c.new.ensures in
    found_plainly o.patient o.limit c.args.text.now c.new.result c.in_ok-explored.explored c.if-not-options.true
    (ap (λ (f : Findings). f.patient) made) c.in_ok-explored.ensures.found
    (ap (λ (f : Findings). f.answers) made) (ap (λ (f : Findings). f.all) made) (ap (λ (f : Findings). f.states) made)

pub returns-clause-found : goal.returns-clause-found
returns-clause-found g c =
    let o = c.args.options.now in
    let made = c.patient.ensures in
    found_patiently o.patient o.limit c.args.text.now c.patient.result c.in_ok-explored-2.explored c.if-not-options.false
    (ap (λ (f : Findings). f.patient) made) c.in_ok-explored-2.ensures.found
    (ap (λ (f : Findings). f.answers) made) (ap (λ (f : Findings). f.all) made) (ap (λ (f : Findings). f.states) made)
    (ap (λ (f : Findings). f.hung) made)
