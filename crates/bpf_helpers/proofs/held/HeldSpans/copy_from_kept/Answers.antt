use Rattle.std.proofs.Common.{rules, ◌≡◌, List, sym, subst}
use Rattle.bpf_shared.specs.declared.events.Span.{Span}
use Rattle.bpf_helpers.specs.declared.grid.Grid.{Grid}
use Rattle.bpf_helpers.specs.Private.Bins.{AreBinned}
use Rattle.bpf_helpers.specs.Private.Found.{LeadToSpans}
use Rattle.bpf_helpers.proofs.held.HeldSpans.copy_from_kept.Goals as goal

pub invariant_of-self : goal.invariant_of-self
invariant_of-self c =
    let spans = c.kept.inside.spans.items in
    let kept = c.kept.invariant in
    let is : c.try_extend_from_slice.new.self.items ≡ spans = search rules in
    let binned : AreBinned c.refill.new.self.latest c.refill.new.self.earlier spans = search rules in
    let grid : c.copy_from.new.self ≡ c.kept.inside.grid = search rules in
    subst (λ (ss : List Span). LeadToSpans c.refill.new.self c.copy_from.new.self ss) (sym is)
    (subst (λ (g : Grid). LeadToSpans c.refill.new.self g spans) (sym grid)
    (record { once = kept.once; binned = binned; on_grid = kept.on_grid; sized = kept.sized }))
