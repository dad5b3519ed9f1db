use Rattle.std.proofs.Common.{◌≡◌, ℕ, ◌<◌, true}
use Rattle.std.specs.Prelude.{slice_index_or}
use Rattle.bpf_shared.specs.declared.events.Span.{Span}
use Rattle.bpf_shared.specs.Shape.{IsValueSpan}
use Rattle.bpf_plain.specs.PlainStore.{held_spans}
use Rattle.bpf_machine.proofs.machine.parts.fitting.are_held.Given as goal

abbrev pub invariant-loop-span : goal.invariant-loop-span
invariant-loop-span l = (k : ℕ) (d : Span) → k < l.span-index
    → (held_spans l.store l.cpu (slice_index_or l.spans k d) ≡ true) × IsValueSpan (slice_index_or l.spans k d)
