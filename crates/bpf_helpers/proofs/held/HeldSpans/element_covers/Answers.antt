use Rattle.std.proofs.Common.{◌≤◌, List, sym, ◌∙◌, subst, arith}
use Rattle.std.specs.Prelude.{All}
use Rattle.bpf_shared.specs.declared.events.Span.{Span}
use Rattle.bpf_helpers.specs.Private.Grid.{IsOnGrid}
use Rattle.bpf_helpers.proofs.Covering.{not_there, too_short, if_among}
use Rattle.bpf_helpers.proofs.held.HeldSpans.element_covers.Goals as goal

pub returns-then-covers : goal.returns-then-covers
returns-then-covers c =
    let zero = c.if-length-eq0.false in
    let some : 1 ≤ c.args.length = omega arith in
    let all : All (IsOnGrid c.self.inside.grid.sizes) c.args.self.now =
    subst (λ (spans : List Span). All (IsOnGrid c.self.inside.grid.sizes) spans) c.self.view_is c.self.invariant.on_grid in
    c.has.ensures ∙ if_among c.self.inside.grid.sizes c.args.self.now c.args.address c.args.length c.element_at.result all some c.element_at.ensures
    c.in-Some.span c.in-Some.is (sym c.if-covers.ensures)

pub returns-else-covers : goal.returns-else-covers
returns-else-covers c =
    let zero = c.if-length-eq0.false in
    let some : 1 ≤ c.args.length = omega arith in
    let all : All (IsOnGrid c.self.inside.grid.sizes) c.args.self.now =
    subst (λ (spans : List Span). All (IsOnGrid c.self.inside.grid.sizes) spans) c.self.view_is c.self.invariant.on_grid in
    c.if-covers.false ∙ too_short c.self.inside.grid.sizes c.args.self.now c.args.address c.args.length c.element_at.result all some c.element_at.ensures
    c.in-Some.span c.in-Some.is (sym c.if-covers.ensures)

pub returns-in-None : goal.returns-in-None
returns-in-None c =
    let zero = c.if-length-eq0.false in
    let some : 1 ≤ c.args.length = omega arith in
    let all : All (IsOnGrid c.self.inside.grid.sizes) c.args.self.now =
    subst (λ (spans : List Span). All (IsOnGrid c.self.inside.grid.sizes) spans) c.self.view_is c.self.invariant.on_grid in
    not_there c.self.inside.grid.sizes c.args.self.now c.args.address c.args.length c.element_at.result all some c.element_at.ensures c.in-None.is
