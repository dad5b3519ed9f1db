use Rattle.std.proofs.Common.{map}
use Rattle.std.specs.Option.{option_copied}
use Rattle.bpf_lines.specs.Lines.{lines_of, lines_behind, rest_size}
use Rattle.bpf_debug.specs.Script.{answer_of}
use Rattle.bpf_buffer_debug.proofs.ScriptLaws.{Far}
use Rattle.bpf_buffer_debug.proofs.script.follow_lines.Given as goal

abbrev pub invariant-lines : goal.invariant-lines
invariant-lines l = Far (lines_of l.script) l.fn.session l.session (map answer_of l.answers.items) (lines_behind (option_copied l.rest))

abbrev pub decreases-lines : goal.decreases-lines
decreases-lines l = rest_size (option_copied l.rest)
