use Rattle.std.proofs.Common.{arith}
use Rattle.bpf_flushes.proofs.Joining.{next_run, all_runs}
use Rattle.bpf_flushes.proofs.moves.moves_by.Goals as goal

pub loop-made-preserved : goal.loop-made-preserved
loop-made-preserved c = next_run c.args.machine.now c.loop-made.machine c.repeat.new.machine c.args.runs.now c.loop-made.made-index _
    (omega arith) c.loop-made.invariant c.in_ok-repeat.ensures

pub returns : goal.returns
returns c = all_runs c.args.machine.now c.loop-made.machine c.args.runs.now c.loop-made.made-index (omega arith) c.loop-made.invariant
