use Rattle.std.proofs.Common.{◌≡◌}
use Rattle.std.specs.List.{list_any}
use Rattle.std.specs.Option.{option_copied}
use Rattle.bpf_lines.specs.Lines.{lines_behind, rest_size}
use Rattle.bpf_check.specs.Claim.{is_fault_line}
use Rattle.bpf_check.specs.Faults.{has_fault}
use Rattle.bpf_check.proofs.claim.has_fault.Given as goal

-- the lines that are left have that of a fault, or none does
abbrev pub invariant-lines : goal.invariant-lines
invariant-lines l = has_fault l.text ≡ list_any is_fault_line (lines_behind (option_copied l.rest))

abbrev pub decreases-lines : goal.decreases-lines
decreases-lines l = rest_size (option_copied l.rest)
