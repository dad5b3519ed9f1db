use Rattle.std.proofs.Common.{◌≤◌, ◌-◌, length}
use Rattle.bpf_text.proofs.Scanning.{Placed}
use Rattle.bpf_text.proofs.places.token_places.Given as goal

abbrev pub invariant-line : goal.invariant-line
invariant-line l = Placed l.line l.places.items l.at × (l.at ≤ length l.line)

abbrev pub decreases-line : goal.decreases-line
decreases-line l = length l.line - l.at
