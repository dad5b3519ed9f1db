use Rattle.std.proofs.Common.{◌++◌, List, ℕ, ap, ◌∙◌, append_assoc}
use Rattle.std.specs.Prelude.{string_bytes, codes}
use Rattle.std.specs.Fmt.{decimal}
use Rattle.bpf_debug.proofs.lines.put_out_of_budget.Goals as goal

pub returns-clause-text : goal.returns-clause-text
returns-clause-text c =
    c.put_number.ensures.text ∙ ap (λ (s : List ℕ). s ++ decimal c.args.pc) c.put.ensures.text
    ∙ append_assoc (string_bytes c.args.out.now) (codes "out of budget at ") (decimal c.args.pc)
