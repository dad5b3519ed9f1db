use Rattle.std.proofs.Common.{◌≡◌, ◌++◌, ℕ, List}
use Rattle.bpf_explore.specs.Search.{row_of}
use Rattle.bpf_explore.proofs.SearchLaws.{TurnsSoFar}
use Rattle.bpf_explore.proofs.frontier.expand.Given as goal

abbrev pub invariant-loop-cpu : goal.invariant-loop-cpu
invariant-loop-cpu g l =
    let kept = g.F.Frontier.kept in
    let manner = g.F.Frontier.manner in
    let has_made = g.F.Frontier.has_made in
    let width = g.F.Frontier.width in
    record {
      far : TurnsSoFar (manner l.fn.frontier) (kept l.fn.frontier) l.place l.cpu (manner l.frontier) (kept l.frontier);
      made : (turns : List (ℕ × ℕ)) → has_made l.fn.frontier turns → has_made l.frontier (turns ++ row_of l.place l.cpu);
      width : width l.frontier ≡ width l.fn.frontier;
    }
