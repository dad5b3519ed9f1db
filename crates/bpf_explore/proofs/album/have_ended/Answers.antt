use Rattle.std.proofs.Common.{refl, arith}
use Rattle.bpf_explore.proofs.TellLaws.{next_ended, goes_on, all_ended}
use Rattle.bpf_explore.proofs.album.have_ended.Goals as goal

pub returns-then-not-has_ended-clause-works : goal.returns-then-not-has_ended-clause-works
returns-then-not-has_ended-clause-works c is all =
    goes_on c.args.parts.now c.args.numbers.now c.loop-job.job c.index-parts-numbers.result (omega arith)
    (c.requires c.loop-job.job 0 (omega arith)) c.index-parts-numbers.is (c.if-not-has_ended.ensures.going refl) all

pub loop-job-preserved : goal.loop-job-preserved
loop-job-preserved c =
    next_ended c.args.parts.now c.args.numbers.now c.loop-job.job c.index-parts-numbers.result (omega arith)
    (c.requires c.loop-job.job 0 (omega arith)) c.index-parts-numbers.is c.loop-job.invariant (c.if-not-has_ended.ensures.ended refl)

pub returns-clause-ended : goal.returns-clause-ended
returns-clause-ended c is = all_ended c.args.parts.now c.args.numbers.now c.loop-job.job (omega arith) c.loop-job.invariant
