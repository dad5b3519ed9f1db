use Rattle.bpf_cpu.specs.declared.outcome.Outcome.TheVariants.{Exit}
use Rattle.bpf_workers.proofs.Ends.{one_stop_more}
use Rattle.bpf_workers.proofs.telling.has_stopped.Goals as goal

pub loop-end-preserved : goal.loop-end-preserved
loop-end-preserved c tasks sizes =
    one_stop_more tasks c.args.ends.now c.loop-end.end-index (Exit 0) c.loop-end.stopped c.is_stop-stopped.result c.loop-end-test.true sizes
    (c.loop-end.invariant tasks sizes) c.is_stop-stopped.ensures
