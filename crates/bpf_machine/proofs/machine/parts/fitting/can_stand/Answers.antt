use Rattle.std.proofs.Common.{◌∙◌, true≢false, sym}
use Rattle.bpf_machine.proofs.FitLaws.{stand_up, stand_down}
use Rattle.bpf_machine.proofs.machine.parts.fitting.can_stand.Goals as goal
use Rattle.bpf_machine.proofs.machine.parts.fitting.can_stand.Goals.{then-all_fit, else-all_fit}

pub returns-then-are_in_order : goal.returns-then-are_in_order
returns-then-are_in_order c = elim c.if-all_fit.branch [
  | then-all_fit w ↦ (
    λ idle. stand_up c.args.store.now c.args.programs.now c.args.parts.now c.args.numbers.now (record {
      alone = c.all_fit.ensures.0 w.if-all_fit.true;
      follow = w.are_in_order.ensures.0 (sym w.value-is ∙ c.if-are_in_order.true);
      idle = c.none_runs_idly.ensures.0 idle;
    }),
    λ stands. c.none_runs_idly.ensures.1 (stand_down c.args.store.now c.args.programs.now c.args.parts.now c.args.numbers.now stands).idle,
  )
  | else-all_fit w ↦ absurd (true≢false (sym c.if-are_in_order.true ∙ (w.value-is ∙ w.if-all_fit.false)))
]

pub returns-else-are_in_order : goal.returns-else-are_in_order
returns-else-are_in_order c = (
  λ is. absurd (true≢false (sym is ∙ c.if-are_in_order.false)),
  λ stands. let so = stand_down c.args.store.now c.args.programs.now c.args.parts.now c.args.numbers.now stands in elim c.if-all_fit.branch [
    | then-all_fit w ↦ w.value-is ∙ w.are_in_order.ensures.1 so.follow
    | else-all_fit w ↦ absurd (true≢false (sym (c.all_fit.ensures.1 so.alone) ∙ w.if-all_fit.false))
  ],
)
