use Rattle.std.proofs.Common.{string_bytes}
use Rattle.std.specs.Option.{option_copied}
use Rattle.bpf_lines.specs.Lines.{rest_size}
use Rattle.bpf_disassembly.proofs.SourceLines.{Listed}
use Rattle.bpf_disassembly.proofs.listing.source.source_lines.Given as goal

abbrev pub invariant-lines : goal.invariant-lines
invariant-lines l = Listed l.source l.bytes (string_bytes l.text) (option_copied l.rest) l.pc l.left

abbrev pub decreases-lines : goal.decreases-lines
decreases-lines l = rest_size (option_copied l.rest)
