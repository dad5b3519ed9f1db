use Rattle.bpf_loader.proofs.CheckLemmas.{clear_past, none_and_at, none_and_none}
use Rattle.bpf_loader.proofs.SoundLemmas.{named_not_unknown}
use Rattle.bpf_loader.proofs.checks.check_map.Goals as goal

pub returns-else-not-has-clause-ok : goal.returns-else-not-has-clause-ok
returns-else-not-has-clause-ok c =
    clear_past _ _ _ 13 _ _ c.requires.begins c.requires.clear (λ a. a)
    (none_and_at _ _ _ c.in-Some.ensures (λ unknown. named_not_unknown c.args.named c.in-Some.map (c.has.ensures.0 c.if-not-has.false) unknown))

pub returns-in_default-clause-ok : goal.returns-in_default-clause-ok
returns-in_default-clause-ok c =
    clear_past _ _ _ 13 _ _ c.requires.begins c.requires.clear (λ a. a) (none_and_none _ _ c.in_default.ensures)
