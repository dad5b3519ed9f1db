use Rattle.std.proofs.Common.{◌∙◌, ◌<◌, ◌++◌, ℕ, List, length, sym, subst}
use Rattle.bpf_machine.specs.Machine.{MachineState}
use Rattle.bpf_explore.specs.Search.{Extends, row_of}
use Rattle.bpf_explore.proofs.frontier.advance.Goals as goal

pub expand-requires : goal.expand-requires
expand-requires g c = subst (λ (ms : List MachineState). c.args.place < length ms) (sym c.prepare.ensures.kept) c.requires.place

pub returns-clause-extends : goal.returns-clause-extends
returns-clause-extends g c =
    let kept = g.F.Frontier.kept in
    subst (λ (ms : List MachineState). Extends ms (kept c.expand.new.frontier)) c.prepare.ensures.kept c.expand.ensures.extends

pub returns-clause-width : goal.returns-clause-width
returns-clause-width g c = c.expand.ensures.width ∙ c.prepare.ensures.width

pub returns-clause-same : goal.returns-clause-same
returns-clause-same g c = c.expand.ensures.same ∙ c.prepare.ensures.same

pub returns-in_err-expand-clause-extends : goal.returns-in_err-expand-clause-extends
returns-in_err-expand-clause-extends g c =
    let kept = g.F.Frontier.kept in
    subst (λ (ms : List MachineState). Extends ms (kept c.expand.new.frontier)) c.prepare.ensures.kept c.expand.ensures.extends

pub returns-in_err-expand-clause-width : goal.returns-in_err-expand-clause-width
returns-in_err-expand-clause-width g c = c.expand.ensures.width ∙ c.prepare.ensures.width

pub returns-in_err-expand-clause-same : goal.returns-in_err-expand-clause-same
returns-in_err-expand-clause-same g c = c.expand.ensures.same ∙ c.prepare.ensures.same

pub returns-clause-made : goal.returns-clause-made
returns-clause-made g c turns is =
    let has_made = g.F.Frontier.has_made in
    subst (λ (n : ℕ). has_made c.expand.new.frontier (turns ++ row_of c.args.place n)) c.prepare.ensures.width
    (c.in_ok-expand.ensures.made turns (c.prepare.ensures.made turns is))
