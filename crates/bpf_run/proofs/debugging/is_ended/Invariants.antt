use Rattle.std.proofs.Common.{◌≡◌}
use Rattle.std.specs.List.{list_any}
use Rattle.std.specs.Option.{option_copied}
use Rattle.bpf_lines.specs.Lines.{lines_behind, lines_of, rest_size}
use Rattle.bpf_replies.specs.Script.{ends_file}
use Rattle.bpf_run.proofs.debugging.is_ended.Given as goal

abbrev pub invariant-lines : goal.invariant-lines
invariant-lines l = list_any ends_file (lines_behind (option_copied l.rest)) ≡ list_any ends_file (lines_of l.input)

abbrev pub decreases-lines : goal.decreases-lines
decreases-lines l = rest_size (option_copied l.rest)
