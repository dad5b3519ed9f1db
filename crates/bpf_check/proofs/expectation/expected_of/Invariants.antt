use Rattle.std.proofs.Common.{◌≡◌, ◌++◌}
use Rattle.std.specs.List.{filter_map}
use Rattle.std.specs.Option.{option_copied}
use Rattle.bpf_lines.specs.Lines.{lines_behind, rest_size}
use Rattle.bpf_check.specs.Comments.{words_of}
use Rattle.bpf_check.specs.Expectation.{expectations_of, test_in}
use Rattle.bpf_check.proofs.expectation.expected_of.Given as goal

-- what was found, and what the lines that are left expect
abbrev pub invariant-lines : goal.invariant-lines
invariant-lines l =
    l.found.items ++ filter_map (λ line. test_in l.subjects (words_of line)) (lines_behind (option_copied l.rest))
    ≡ expectations_of l.subjects l.text

abbrev pub decreases-lines : goal.decreases-lines
decreases-lines l = rest_size (option_copied l.rest)
