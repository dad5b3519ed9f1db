use Rattle.std.proofs.Common.{◌≡◌, ◌+◌, ◌-◌}
use Rattle.bpf_reorderings.proofs.Growing.{ExpandedSoFar}
use Rattle.bpf_reorderings.proofs.explorer.Explorer.explore.Given as goal

abbrev pub invariant-loop-next : goal.invariant-loop-next
invariant-loop-next g l = (l.self.patient ≡ l.fn.self.patient) × ExpandedSoFar l.fn.self.patient l.fn.self.kept l.next l.self.kept

abbrev pub decreases-loop-next : goal.decreases-loop-next
decreases-loop-next g l = l.limit + 1 - l.next
