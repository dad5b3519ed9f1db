use Rattle.bpf_cpu.specs.declared.outcome.Outcome.TheVariants.{Exit}
use Rattle.std.specs.Prelude.{string_bytes}
use Rattle.bpf_workers.proofs.Ends.{one_line_more}
use Rattle.bpf_workers.proofs.telling.list_jobs.Goals as goal

pub loop-job-preserved : goal.loop-job-preserved
loop-job-preserved c =
    one_line_more c.args.jobs.now c.args.ends.now c.loop-job.job c.index-jobs-job.result (Exit 0) (string_bytes c.loop-job.text)
    (string_bytes c.push_job.new.text)
    c.loop-job-test.true c.requires c.loop-job.invariant c.in_ok-push_job.ensures
