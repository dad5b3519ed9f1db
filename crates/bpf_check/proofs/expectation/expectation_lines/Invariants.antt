use Rattle.std.proofs.Common.{◌≡◌, ◌+◌, ◌≤◌, ◌++◌, length}
use Rattle.std.specs.Option.{option_copied}
use Rattle.bpf_lines.specs.Lines.{lines_behind, rest_size}
use Rattle.bpf_check.specs.Expectation.{expectation_lines, lines_from}
use Rattle.bpf_check.proofs.expectation.expectation_lines.Given as goal

-- what was found, and which of the lines that are left expect something; each of them takes a byte
abbrev pub invariant-lines : goal.invariant-lines
invariant-lines l = record {
  found : l.found.items ++ lines_from l.subjects l.number (lines_behind (option_copied l.rest)) ≡ expectation_lines l.subjects l.text;
  room : l.number + rest_size (option_copied l.rest) ≤ length l.text + 2;
}

abbrev pub decreases-lines : goal.decreases-lines
decreases-lines l = rest_size (option_copied l.rest)
