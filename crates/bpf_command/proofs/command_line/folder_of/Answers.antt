use Rattle.std.proofs.Common.{◌∙◌, List, ℕ, Some, ap, codes}
use Rattle.clap.specs.Words.{found_of}
use Rattle.clap.proofs.WalkLemmas.{first_value-rows}
use Rattle.bpf_command.proofs.command_line.folder_of.Goals as goal

pub returns-in_default-clause-named : goal.returns-in_default-clause-named
returns-in_default-clause-named c = c.in_default.ensures ∙ first_value-rows (found_of c.args.options.now) (codes "into")

pub returns-in-Ok-clause-named : goal.returns-in-Ok-clause-named
returns-in-Ok-clause-named c =
    ap (λ (t : List ℕ). Some t) c.in-Ok.ensures.ok ∙ (c.in-Some.ensures ∙ first_value-rows (found_of c.args.options.now) (codes "into"))
