use Rattle.std.proofs.Common.{◌≤◌, length, arith}
use Rattle.bpf_flushes.proofs.Rounding.{none_below, some_below, all_below}
use Rattle.bpf_flushes.proofs.rounds.have_ended.Goals as goal

pub loop-job-init : goal.loop-job-init
loop-job-init c = none_below c.args.machine.now.machine.jobs

pub loop-job-preserved : goal.loop-job-preserved
loop-job-preserved c = some_below c.args.machine.now.machine.jobs c.loop-job.job c.outcome.result c.if-is_none.ensures c.outcome.ensures c.loop-job.invariant

pub returns-clause-ended : goal.returns-clause-ended
returns-clause-ended c = λ ended.
    let past : length c.args.machine.now.machine.jobs ≤ c.loop-job.job = omega arith in
    all_below c.args.machine.now.machine.jobs c.loop-job.job past c.loop-job.invariant
