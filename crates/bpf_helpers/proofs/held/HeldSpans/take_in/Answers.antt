use Rattle.std.proofs.Common.{◌≡◌, ◌∙◌, true, false, List, [], ◌∷◌, ◌++◌, sym, ap, subst}
use Rattle.bpf_shared.specs.declared.events.Span.{Span}
use Rattle.bpf_helpers.specs.Held.{AreElements, has_span}
use Rattle.bpf_helpers.specs.Private.Found.{LeadToSpans}
use Rattle.bpf_helpers.proofs.Noting.{now_on, on_then, all_sized}
use Rattle.bpf_helpers.proofs.SpanLemmas.{once_more}
use Rattle.bpf_helpers.proofs.held.HeldSpans.take_in.Goals as goal

pub returns-then-not-has-clause-refused : goal.returns-then-not-has-clause-refused
returns-then-not-has-clause-refused c = λ no few once are.
    let spans = c.self.inside.spans.items in
    let elements : AreElements (spans ++ c.args.span ∷ []) = subst (λ (held : List Span). AreElements (held ++ c.args.span ∷ [])) (sym c.self.view_is) are in
    let on = on_then c.self.inside.grid.sizes c.noted-grid.result.sizes spans c.args.span c.noted-grid.ensures.kept
    c.noted-grid.ensures.elements c.self.invariant.sized elements in
    let yes : c.has-2.result ≡ true = c.has-2.ensures.1 on in
    absurd cc

pub invariant_of-self : goal.invariant_of-self
invariant_of-self c =
    let spans = c.self.inside.spans.items in
    let old = c.self.invariant in
    let on = c.has-2.ensures.0 c.if-not-has.false in
    let fresh : has_span spans c.args.span ≡ false = ap (λ (held : List Span). has_span held c.args.span) c.self.view_is ∙
    (sym c.has.ensures ∙ c.if-has.false) in
    subst (λ (held : List Span). LeadToSpans c.put.new.self c.noted-grid.result held) (sym c.push.ensures.items) (record {
      once = once_more spans c.args.span old.once fresh;
      binned = c.put.ensures spans (sym c.len.ensures.value) old.binned;
      on_grid = now_on c.self.inside.grid.sizes c.noted-grid.result.sizes spans c.args.span c.noted-grid.ensures.kept
          c.noted-grid.ensures.elements old.sized old.on_grid on;
      sized = all_sized c.self.inside.grid.sizes c.noted-grid.result.sizes spans c.args.span c.noted-grid.ensures.kept c.noted-grid.ensures.elements old.sized;
    })
