use Rattle.std.proofs.Common.{arith}
use Rattle.std.specs.Prelude.{string_bytes}
use Rattle.bpf_debug.proofs.ToldLaws.{one_job_more}
use Rattle.bpf_buffer_debug.proofs.lines.put_jobs.Goals as goal

pub loop-job-preserved : goal.loop-job-preserved
loop-job-preserved c = record {
  text = one_job_more (string_bytes c.args.out.now) (string_bytes c.loop-job.out) (string_bytes c.put_told.new.out) c.args.machine.now.machine.jobs
      c.loop-job.job c.loop-job.invariant.text c.put_told.ensures.text;
  size = (let so_far = c.loop-job.invariant.size in let more = c.put_told.ensures.size in omega arith);
  room = (let so_far = c.loop-job.invariant.room in let more = c.put_told.ensures.room in omega arith);
}
