use Rattle.std.specs.Option.{option_copied}
use Rattle.bpf_lines.specs.Lines.{rest_size}
use Rattle.bpf_file.specs.Private.Drafts.{part_of}
use Rattle.bpf_file.proofs.Progress.{Progress}
use Rattle.bpf_file.proofs.reader.read_file.Given as goal

abbrev pub invariant-lines : goal.invariant-lines
invariant-lines l = Progress l.text l.line (part_of l.draft) (option_copied l.rest)

abbrev pub decreases-lines : goal.decreases-lines
decreases-lines l = rest_size (option_copied l.rest)
