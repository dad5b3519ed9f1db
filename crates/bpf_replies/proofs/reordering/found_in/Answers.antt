use Rattle.std.proofs.Common.{◌≡◌, ℕ, List, Bool, true, false, refl}
use Rattle.std.proofs.lemmas.Result.{IfOk-weaker}
use Rattle.bpf_explore.specs.Outcomes.{Found}
use Rattle.bpf_explore.specs.declared.exploring.Explored.{Explored}
use Rattle.bpf_explore.specs.declared.exploring.ExploredPatiently.{ExploredPatiently}
use Rattle.bpf_replies.specs.Reordering.{AreAnswersOnX86, AreFoundOnX86, ArePatientAnswersOnX86}
use Rattle.bpf_replies.proofs.reordering.found_in.Goals as goal

-- of a search that isn't patient, and of one that is
found_plainly : (patient : Bool) (text : List ℕ) (limit : ℕ) (e : Explored) → patient ≡ false → AreAnswersOnX86 text limit e →
    AreFoundOnX86 patient text limit e.answers.items e.all e.states
found_plainly false text limit e is found = (e, found, refl, refl, refl)
found_plainly true text limit e is found = let no : true ≡ false = is in absurd cc

found_patiently : (patient : Bool) (text : List ℕ) (limit : ℕ) (e : ExploredPatiently) → patient ≡ true → ArePatientAnswersOnX86 text limit e →
    AreFoundOnX86 patient text limit e.answers.items e.all e.states
found_patiently true text limit e is found = (e, found, refl, refl, refl)
found_patiently false text limit e is found = let no : false ≡ true = is in absurd cc

pub returns-then-not-options-clause-found : goal.returns-then-not-options-clause-found
returns-then-not-options-clause-found g c =
    let o = c.args.options.now in
    IfOk-weaker c.explored_in.result (AreAnswersOnX86 c.args.text.now o.limit)
    (λ (e : Explored). AreFoundOnX86 o.patient c.args.text.now o.limit e.answers.items e.all e.states)
    (λ e found. found_plainly o.patient c.args.text.now o.limit e c.if-not-options.true found) c.explored_in.ensures.found

pub returns-clause-found : goal.returns-clause-found
returns-clause-found g c =
    let o = c.args.options.now in
    found_patiently o.patient c.args.text.now o.limit c.in_ok-answers.field-0 c.if-not-options.false c.in_ok-answers.ensures.found
