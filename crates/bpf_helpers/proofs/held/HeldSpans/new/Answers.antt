use Rattle.std.proofs.Common.{List, sym, subst}
use Rattle.std.proofs.lemmas.List.Elements.{All-nil}
use Rattle.bpf_shared.specs.declared.events.Span.{Span}
use Rattle.bpf_helpers.specs.Private.Found.{LeadToSpans}
use Rattle.bpf_helpers.specs.Private.Grid.{IsOnGrid}
use Rattle.bpf_helpers.proofs.SpanLemmas.{none_once}
use Rattle.bpf_helpers.proofs.held.HeldSpans.new.Goals as goal

pub invariant_of-result : goal.invariant_of-result
invariant_of-result c = subst (λ (spans : List Span). LeadToSpans c.new-2.result c.new-3.result spans) (sym c.new.ensures) (record {
  once = none_once;
  binned = c.new-2.ensures;
  on_grid = All-nil (IsOnGrid c.new-3.result.sizes);
  sized = λ maps are all. c.new-3.ensures maps;
})
