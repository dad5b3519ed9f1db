use Rattle.std.proofs.Common.{◌∙◌, refl, arith}
use Rattle.bpf_flushes.proofs.Joining.{nothing_made, next_run, all_runs}
use Rattle.bpf_reorderings.proofs.trying.make_moves.Goals as goal

pub loop-made-init : goal.loop-made-init
loop-made-init c = (refl, refl, nothing_made c.args.explorer.now.machine)

pub loop-made-preserved : goal.loop-made-preserved
loop-made-preserved c = (
  c.repeat.ensures.same ∙ c.loop-made.invariant.0,
  c.repeat.ensures.patient ∙ c.loop-made.invariant.1,
  next_run c.args.explorer.now.machine c.loop-made.explorer.machine c.repeat.new.explorer.machine c.args.runs.now c.loop-made.made-index _
      (omega arith) c.loop-made.invariant.2 c.in_ok-repeat.ensures.makes,
)

pub returns-clause-makes : goal.returns-clause-makes
returns-clause-makes c =
    all_runs c.args.explorer.now.machine c.loop-made.explorer.machine c.args.runs.now c.loop-made.made-index (omega arith) c.loop-made.invariant.2
