use Rattle.std.proofs.Common.{◌∙◌, true≢false, sym}
use Rattle.bpf_cpu.proofs.kept.KeptCpu.is_ready.Goals as goal
use Rattle.bpf_cpu.proofs.kept.KeptCpu.is_ready.Goals.{then-is_at_start, else-is_at_start}

pub returns-then-callers_are_at_starts : goal.returns-then-callers_are_at_starts
returns-then-callers_are_at_starts c = elim c.if-is_at_start.branch [
  | then-is_at_start w ↦ (
    λ top. record {
      here = c.is_at_start.ensures.0 w.if-is_at_start.true;
      callers = w.callers_are_at_starts.ensures.0 (sym w.value-is ∙ c.if-callers_are_at_starts.true);
      paired = c.has_stack.ensures.paired;
      top = c.has_top.ensures.0 top;
    },
    λ ready. c.has_top.ensures.1 ready.top,
  )
  | else-is_at_start w ↦ absurd (true≢false (sym c.if-callers_are_at_starts.true ∙ (w.value-is ∙ w.if-is_at_start.false)))
]

pub returns-else-callers_are_at_starts : goal.returns-else-callers_are_at_starts
returns-else-callers_are_at_starts c = (
  λ is. absurd (true≢false (sym is ∙ c.if-callers_are_at_starts.false)),
  λ ready. elim c.if-is_at_start.branch [
    | then-is_at_start w ↦ w.value-is ∙ w.callers_are_at_starts.ensures.1 ready.callers
    | else-is_at_start w ↦ absurd (true≢false (sym (c.is_at_start.ensures.1 ready.here) ∙ w.if-is_at_start.false))
  ],
)
