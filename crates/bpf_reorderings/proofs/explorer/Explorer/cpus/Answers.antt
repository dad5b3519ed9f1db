use Rattle.std.proofs.Common.{◌≤◌, ℕ, subst}
use Rattle.bpf_reorderings.specs.Private.Edges.{IsIdleAt}
use Rattle.bpf_reorderings.specs.Private.Searching.{Searched}
use Rattle.bpf_reorderings.proofs.explorer.Explorer.cpus.Goals as goal

pub returns-clause-beyond : goal.returns-clause-beyond
returns-clause-beyond c =
    subst (λ (a : Searched). (i d : ℕ) → c.cpus.result ≤ d → IsIdleAt a.kept i d) c.self.view_is
    (λ i d past m at. c.cpus.ensures.beyond i d m at past)
