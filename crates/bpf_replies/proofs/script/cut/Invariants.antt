use Rattle.std.specs.Option.{option_copied}
use Rattle.bpf_lines.specs.Lines.{rest_size}
use Rattle.bpf_replies.proofs.Cutting.{Seen}
use Rattle.bpf_replies.proofs.script.cut.Given as goal

abbrev pub invariant-lines : goal.invariant-lines
invariant-lines l = Seen l.input (option_copied l.rest) l.size

abbrev pub decreases-lines : goal.decreases-lines
decreases-lines l = rest_size (option_copied l.rest)
