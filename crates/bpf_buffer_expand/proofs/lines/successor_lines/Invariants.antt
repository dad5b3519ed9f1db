use Rattle.std.proofs.Common.{◌≡◌, string_bytes}
use Rattle.bpf_buffer_expand.specs.Lines.{successor_lines}
use Rattle.bpf_buffer_expand.proofs.lines.successor_lines.Given as goal

abbrev pub invariant-loop-successor : goal.invariant-loop-successor
invariant-loop-successor l = string_bytes l.text ≡ successor_lines l.successor-index l.found
