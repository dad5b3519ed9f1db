use Rattle.std.proofs.Common.{◌≡◌, ◌∙◌, false, List, ◌∷◌, sym, ap, subst}
use Rattle.bpf_shared.specs.declared.events.Span.{Span}
use Rattle.bpf_helpers.specs.Held.{AreElements, has_span}
use Rattle.bpf_helpers.specs.Private.Found.{LeadToSpans}
use Rattle.bpf_helpers.proofs.Noting.{all_on, all_sized}
use Rattle.bpf_helpers.proofs.SpanLemmas.{once_more}
use Rattle.bpf_helpers.proofs.held.HeldSpans.hold.Goals as goal

pub invariant_of-self : goal.invariant_of-self
invariant_of-self c =
    let spans = c.self.inside.spans.items in
    let old = c.self.invariant in
    let elements : AreElements (c.args.span ∷ spans) = subst (λ (held : List Span). AreElements (c.args.span ∷ held)) (sym c.self.view_is)
    c.requires.elements in
    let fresh : has_span spans c.args.span ≡ false = ap (λ (held : List Span). has_span held c.args.span) c.self.view_is ∙
    (sym c.has.ensures ∙ c.if-not-has.true) in
    subst (λ (held : List Span). LeadToSpans c.put.new.self c.note.new.self held) (sym c.push.ensures.items) (record {
      once = once_more spans c.args.span old.once fresh;
      binned = c.put.ensures spans (sym c.len.ensures.value) old.binned;
      on_grid = all_on c.self.inside.grid.sizes c.note.new.self.sizes spans c.args.span c.note.ensures.kept c.note.ensures.elements
          old.sized old.on_grid elements;
      sized = all_sized c.self.inside.grid.sizes c.note.new.self.sizes spans c.args.span c.note.ensures.kept c.note.ensures.elements old.sized;
    })
