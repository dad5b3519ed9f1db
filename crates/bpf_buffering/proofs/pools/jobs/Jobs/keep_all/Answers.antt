use Rattle.bpf_buffering.proofs.Pooling.{next_kept}
use Rattle.bpf_buffering.proofs.pools.jobs.Jobs.keep_all.Goals as goal

pub loop-job-preserved : goal.loop-job-preserved
loop-job-preserved c =
    next_kept c.args.self.now c.args.jobs.now c.loop-job.job-index c.loop-job.self c.keep.new.self c.loop-job.numbers.items
    c.push.new.self.items c.in_ok-number.number c.job-item.result c.loop-job.invariant c.loop-job-test.true c.job-item.is c.keep.ensures.grows
    c.in_ok-number.ensures.at c.in_ok-push.ensures.items
