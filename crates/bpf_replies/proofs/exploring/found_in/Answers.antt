use Rattle.std.proofs.Common.{◌≡◌, ℕ, List, Bool, true, false, subst}
use Rattle.bpf_explore.specs.declared.budgets.Budgets.{Budgets}
use Rattle.bpf_explore.specs.Outcomes.{Found}
use Rattle.bpf_replies.specs.Exploring.{AreFoundBy, ArePatientAnswersTo}
use Rattle.bpf_replies.proofs.exploring.found_in.Goals as goal

-- what is hung, and whether budgets suffice, is left out
answers_alone : (patient : Bool) (text : List ℕ) (answers : List Found) (all : Bool) (limit states : ℕ) (hung : List (List (ℕ × ℕ))) (budgets : Budgets)
    → patient ≡ true → ArePatientAnswersTo text answers all limit states hung budgets → AreFoundBy patient text answers all limit states
answers_alone true text answers all limit states hung budgets is found = (hung, budgets, found)
answers_alone false text answers all limit states hung budgets is found = let no : false ≡ true = is in absurd cc

pub returns-clause-found : goal.returns-clause-found
returns-clause-found g c =
    let found = c.in_ok-answers.field-0 in
    let text = c.args.text.now in
    let limited = subst (λ (n : ℕ). ArePatientAnswersTo text found.answers.items found.all n found.states found.hung.items found.budgets)
    c.scope_of-scope.ensures.limit c.in_ok-answers.ensures.found in
    answers_alone c.args.options.patient text found.answers.items found.all c.args.options.limit found.states found.hung.items found.budgets
    c.if-not-options.false limited
