use Rattle.std.proofs.Common.{◌≡◌, ◌+◌, ◌-◌, []}
use Rattle.bpf_explore.specs.Search.{rows_of}
use Rattle.bpf_explore.proofs.SearchLaws.{ExpandedSoFar}
use Rattle.bpf_explore.proofs.frontier.explore.Given as goal

abbrev pub invariant-loop-next : goal.invariant-loop-next
invariant-loop-next g l =
    let kept = g.F.Frontier.kept in
    let manner = g.F.Frontier.manner in
    let has_made = g.F.Frontier.has_made in
    let width = g.F.Frontier.width in
    record {
      far : ExpandedSoFar (manner l.fn.frontier) (kept l.fn.frontier) l.next (manner l.frontier) (kept l.frontier);
      made : has_made l.fn.frontier [] → has_made l.frontier (rows_of (width l.fn.frontier) l.next);
      width : width l.frontier ≡ width l.fn.frontier;
    }

abbrev pub decreases-loop-next : goal.decreases-loop-next
decreases-loop-next g l = l.limit + 1 - l.next
