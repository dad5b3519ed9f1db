use Rattle.std.proofs.Common.{refl}
use Rattle.std.proofs.lemmas.Option.{slice_get_read}
use Rattle.std.specs.Prelude.{length}
use Rattle.bpf_sched.proofs.Refusing.{all_here, one_more_here}
use Rattle.bpf_sched.proofs.jobs.are_here.Goals as goal

pub returns-then-job-cpus-clause-outside : goal.returns-then-job-cpus-clause-outside
returns-then-job-cpus-clause-outside c = λ _. (
  c.job-item.result,
  c.loop-job.job-index,
  slice_get_read c.args.jobs.now
      (length c.args.jobs.now) c.loop-job.job-index c.job-item.result refl c.loop-job-test.true c.job-item.is,
  c.if-job-cpus.true,
)

pub loop-job-preserved : goal.loop-job-preserved
loop-job-preserved c = one_more_here c.args.cpus c.args.jobs.now c.loop-job.job-index c.job-item.result c.job-item.is c.loop-job-test.true
    c.if-job-cpus.false c.loop-job.invariant

pub returns-clause-here : goal.returns-clause-here
returns-clause-here c = λ _. all_here c.args.cpus c.args.jobs.now c.loop-job.job-index c.loop-job-test.false c.loop-job.invariant
