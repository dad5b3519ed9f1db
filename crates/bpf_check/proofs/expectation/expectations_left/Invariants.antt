use Rattle.std.proofs.Common.{◌≡◌, ◌+◌, ◌≤◌, length}
use Rattle.std.specs.Option.{option_copied}
use Rattle.bpf_lines.specs.Lines.{lines_behind, rest_size}
use Rattle.bpf_check.specs.Expectation.{count_left, left_of}
use Rattle.bpf_check.proofs.expectation.expectations_left.Given as goal

-- how many were counted, and how many are among the lines that are left; each of them takes a byte
abbrev pub invariant-lines : goal.invariant-lines
invariant-lines l = record {
  count : l.count + count_left l.subjects (lines_behind (option_copied l.rest)) ≡ left_of l.subjects l.text;
  room : l.count + rest_size (option_copied l.rest) ≤ length l.text + 1;
}

abbrev pub decreases-lines : goal.decreases-lines
decreases-lines l = rest_size (option_copied l.rest)
