use Rattle.std.proofs.Common.{◌∙◌, sym, arith}
use Rattle.bpf_explore.proofs.DiveLaws.{next_has_ended, all_have_ended}
use Rattle.bpf_explore.proofs.dives.have_ended.Goals as goal

pub loop-job-preserved : goal.loop-job-preserved
loop-job-preserved c = next_has_ended c.args.machine.now.jobs c.loop-job.job c.in-Some.field-0 c.loop-job.invariant (sym c.outcome.ensures ∙ c.in-Some.is)

pub returns : goal.returns
returns c is = all_have_ended c.args.machine.now.jobs c.loop-job.job (omega arith) c.loop-job.invariant
