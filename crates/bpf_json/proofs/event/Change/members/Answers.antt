use Rattle.std.proofs.Common.{◌≡◌, ◌∙◌, List, ℕ, ap, subst, sym}
use Rattle.std.specs.Prelude.{IfOk, codes, string_bytes}
use Rattle.bpf_json.specs.Lines.{change_members, number_first}
use Rattle.bpf_json.specs.declared.event.Change.{Change}
use Rattle.bpf_json.proofs.event.Change.members.Goals as goal

pub returns-in_ok-last-in-Compared : goal.returns-in_ok-last-in-Compared
returns-in_ok-last-in-Compared c =
    let v = c.in-Compared in
    let made = c.number_first-in-Compared-2 in
    let others = c.as_str-in-Compared-2.ensures.value
    ∙ (c.in_ok-last-in-Compared.ensures ∙ ap (λ (t : List ℕ). number_first (codes "expected") v.expected t)
    (c.as_str-in-Compared.ensures.value ∙ c.in_ok-found-in-Compared.ensures)) in
    subst (λ (it : Change). IfOk made.result (λ s. string_bytes s ≡ change_members it)) (sym v.is)
    (subst (λ (t : List ℕ). IfOk made.result (λ s. string_bytes s ≡ number_first (codes "operand") v.operand t)) others made.ensures)
