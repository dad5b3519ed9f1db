use Rattle.std.specs.Option.{option_copied}
use Rattle.bpf_lines.specs.Lines.{rest_size}
use Rattle.bpf_file.proofs.Cutting.{Seen}
use Rattle.bpf_file.proofs.assembly.up_to_end.Given as goal

abbrev pub invariant-lines : goal.invariant-lines
invariant-lines l = Seen l.text (option_copied l.rest) l.len l.count

abbrev pub decreases-lines : goal.decreases-lines
decreases-lines l = rest_size (option_copied l.rest)
