use Rattle.std.proofs.Common.{length, refl, sym, ◌∙◌, arith}
use Rattle.std.proofs.lemmas.Option.{slice_get_read}
use Rattle.bpf_buffering.specs.Jobs.{waits_for}
use Rattle.bpf_buffering.proofs.Finding.{more_none, found_waiting, none_waiting}
use Rattle.bpf_buffering.proofs.jobs.find_waiting.Goals as goal

pub returns-then-waits_for-clause-some : goal.returns-then-waits_for-clause-some
returns-then-waits_for-clause-some c =
    let jobs = c.args.jobs.now in
    let at = slice_get_read jobs (length jobs) c.loop-job.job c.index-jobs-job.result refl (omega arith) c.index-jobs-job.is in
    found_waiting jobs c.args.cpu c.loop-job.job c.index-jobs-job.result at (sym c.waits_for.ensures ∙ c.if-waits_for.true) c.loop-job.invariant

pub loop-job-preserved : goal.loop-job-preserved
loop-job-preserved c =
    let jobs = c.args.jobs.now in
    let at = slice_get_read jobs (length jobs) c.loop-job.job c.index-jobs-job.result refl (omega arith) c.index-jobs-job.is in
    more_none jobs (waits_for c.args.cpu) c.loop-job.job c.index-jobs-job.result at (sym c.waits_for.ensures ∙ c.if-waits_for.false) c.loop-job.invariant

pub returns-clause-none : goal.returns-clause-none
returns-clause-none c = none_waiting c.args.jobs.now c.args.cpu c.loop-job.job (omega arith) c.loop-job.invariant
