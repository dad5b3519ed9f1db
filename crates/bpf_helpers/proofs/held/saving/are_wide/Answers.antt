use Rattle.std.proofs.Common.{List, subst, arith}
use Rattle.std.specs.Prelude.{All}
use Rattle.std.proofs.lemmas.List.{take_all}
use Rattle.std.proofs.lemmas.List.Elements.{All-more}
use Rattle.bpf_shared.specs.declared.events.Span.{Span}
use Rattle.bpf_helpers.specs.Saved.{IsWide}
use Rattle.bpf_helpers.proofs.held.saving.are_wide.Goals as goal

pub loop-span-preserved : goal.loop-span-preserved
loop-span-preserved c = All-more IsWide c.args.spans.now c.loop-span.span-index _ (omega arith) c.loop-span.invariant c.is_wide.ensures

pub returns : goal.returns
returns c = (let P : List Span → Type 0 = All IsWide in subst P (take_all c.loop-span.span-index c.args.spans.now (omega arith)) c.loop-span.invariant)
