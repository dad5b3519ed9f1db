use Rattle.std.proofs.Common.{rules, ◌≡◌, ◌≤◌, List, length, sym, subst, arith}
use Rattle.bpf_shared.specs.declared.events.Span.{Span}
use Rattle.bpf_helpers.specs.declared.grid.Grid.{Grid}
use Rattle.bpf_helpers.specs.Held.{max_held}
use Rattle.bpf_helpers.specs.Private.Found.{MayBeFound}
use Rattle.bpf_helpers.proofs.held.kept.KeptSpans.of.Goals as goal

pub invariant_of-result : goal.invariant_of-result
invariant_of-result c =
    let spans = c.held.inside.spans.items in
    let held = c.held.invariant in
    let is : c.in_ok-spans.spans.items ≡ spans = search rules in
    let few : length spans ≤ max_held = omega (arith, c.len-few.ensures.value, c.len-few.ensures.fits) in
    subst (λ (ss : List Span). MayBeFound c.copy-grid.result ss) (sym is)
    (subst (λ (g : Grid). MayBeFound g spans) (sym c.copy-grid.ensures)
    (record { few = few; once = held.once; on_grid = held.on_grid; sized = held.sized }))
