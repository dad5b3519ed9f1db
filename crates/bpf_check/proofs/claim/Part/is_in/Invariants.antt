use Rattle.std.proofs.Common.{◌≡◌}
use Rattle.std.specs.List.{list_any}
use Rattle.std.specs.Option.{option_copied}
use Rattle.bpf_lines.specs.Lines.{lines_behind, rest_size}
use Rattle.bpf_check.specs.Claim.{has_part, is_line_of}
use Rattle.bpf_check.proofs.claim.Part.is_in.Given as goal

-- the lines that are left have one of its kind, or none does
abbrev pub invariant-lines : goal.invariant-lines
invariant-lines l =
    has_part l.self l.text ≡ list_any (is_line_of l.self.kind l.self.bytes) (lines_behind (option_copied l.rest))

abbrev pub decreases-lines : goal.decreases-lines
decreases-lines l = rest_size (option_copied l.rest)
