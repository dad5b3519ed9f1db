use Rattle.bpf_buffering.specs.Jobs.{task_of, tasks_of}
use Rattle.bpf_expand.proofs.Lists.{saved_next}
use Rattle.bpf_buffer_expand.proofs.Looking.{task_at}
use Rattle.bpf_buffer_expand.proofs.jobs.save_jobs.Goals as goal

pub loop-job-preserved : goal.loop-job-preserved
loop-job-preserved c =
    saved_next c.loop-job.out.items c.save.new.out.items c.args.out.now.items (tasks_of c.args.jobs.now) c.loop-job.job-index
    (task_of c.job-item.result) (task_at c.args.jobs.now c.loop-job.job-index c.job-item.result c.loop-job-test.true c.job-item.is)
    c.loop-job.invariant c.in_ok-save.ensures.ok
