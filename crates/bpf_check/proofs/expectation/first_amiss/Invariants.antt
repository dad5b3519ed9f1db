use Rattle.std.proofs.Common.{◌≡◌, ◌+◌, ◌≤◌, length}
use Rattle.std.specs.List.{position_from}
use Rattle.std.specs.Option.{option_copied}
use Rattle.bpf_lines.specs.Lines.{lines_behind, rest_size}
use Rattle.bpf_check.specs.Comments.{words_of}
use Rattle.bpf_check.specs.Expectation.{first_amiss, is_amiss}
use Rattle.bpf_check.proofs.expectation.first_amiss.Given as goal

-- the first is the first of the lines that are left, each of which takes a byte
abbrev pub invariant-lines : goal.invariant-lines
invariant-lines l = record {
  first : first_amiss l.subjects l.text ≡ position_from (λ line. is_amiss l.subjects (words_of line)) l.number (lines_behind (option_copied l.rest));
  room : l.number + rest_size (option_copied l.rest) ≤ length l.text + 1;
}

abbrev pub decreases-lines : goal.decreases-lines
decreases-lines l = rest_size (option_copied l.rest)
