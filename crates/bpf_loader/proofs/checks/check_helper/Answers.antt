use Rattle.bpf_loader.proofs.CheckLemmas.{clear_past, none_and_at, none_and_none}
use Rattle.bpf_loader.proofs.checks.check_helper.Goals as goal

pub returns-else-not-is_helper-clause-ok : goal.returns-else-not-is_helper-clause-ok
returns-else-not-is_helper-clause-ok c =
    clear_past _ _ _ 12 _ _ c.requires.begins c.requires.clear (λ a. a)
    (none_and_at _ _ _ c.in-Some.ensures (λ unknown. unknown (c.is_helper.ensures.0 c.if-not-is_helper.false)))

pub returns-in_default-clause-ok : goal.returns-in_default-clause-ok
returns-in_default-clause-ok c =
    clear_past _ _ _ 12 _ _ c.requires.begins c.requires.clear (λ a. a) (none_and_none _ _ c.in_default.ensures)
