use Rattle.std.proofs.Common.{rules}
use Rattle.std.specs.Option.{option_copied}
use Rattle.bpf_replies.proofs.Cutting.{seen_next}
use Rattle.bpf_replies.proofs.script.cut.Goals as goal

pub lines-preserved : goal.lines-preserved
lines-preserved c =
    seen_next c.args.input.now c.in-Some.left.now c.first_line.result.0.now (option_copied c.first_line.result.1)
    c.lines.size (search rules) c.first_line.ensures.lines (search rules)
