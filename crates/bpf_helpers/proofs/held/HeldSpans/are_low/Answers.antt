use Rattle.std.proofs.Common.{List, subst}
use Rattle.std.specs.Prelude.{All}
use Rattle.bpf_shared.specs.declared.events.Span.{Span}
use Rattle.bpf_helpers.specs.Private.Grid.{IsOnGrid}
use Rattle.bpf_helpers.proofs.Covering.{past_maps}
use Rattle.bpf_helpers.proofs.held.HeldSpans.are_low.Goals as goal

pub returns : goal.returns
returns c = λ a n past some.
    let all : All (IsOnGrid c.self.inside.grid.sizes) c.args.self.now =
    subst (λ (spans : List Span). All (IsOnGrid c.self.inside.grid.sizes) spans) c.self.view_is c.self.invariant.on_grid in
    past_maps c.self.inside.grid.sizes c.args.self.now a n all past some
