use Rattle.std.proofs.Common.{◌≤◌, ◌-◌, length}
use Rattle.bpf_text.proofs.Scanning.{IsCut}
use Rattle.bpf_text.proofs.token.tokens_of.Given as goal

abbrev pub invariant-line : goal.invariant-line
invariant-line l = IsCut l.line l.tokens.items l.at × (l.at ≤ length l.line)

abbrev pub decreases-line : goal.decreases-line
decreases-line l = length l.line - l.at
