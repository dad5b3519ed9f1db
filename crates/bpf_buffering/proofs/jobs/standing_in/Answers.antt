use Rattle.std.proofs.Common.{length, refl, arith}
use Rattle.std.proofs.lemmas.Option.{slice_get_read}
use Rattle.bpf_buffering.specs.Jobs.{held_by, task_of}
use Rattle.bpf_buffering.proofs.Finding.{entry_at, more_none, none_in_hand}
use Rattle.bpf_buffering.proofs.jobs.standing_in.Goals as goal

pub returns-in-Some : goal.returns-in-Some
returns-in-Some c =
    let jobs = c.args.jobs.now in
    let x = c.index-jobs-job.result in
    let at = slice_get_read jobs (length jobs) c.loop-job.job x refl (omega arith) c.index-jobs-job.is in
    let found = c.in-Some.ensures.some in
    (task_of x, found.1.0, record { listed = entry_at jobs c.loop-job.job x at; of = found.0; at = found.1.1 })

pub loop-job-preserved : goal.loop-job-preserved
loop-job-preserved c =
    let jobs = c.args.jobs.now in
    let at = slice_get_read jobs (length jobs) c.loop-job.job c.index-jobs-job.result refl (omega arith) c.index-jobs-job.is in
    more_none jobs (held_by c.args.cpu) c.loop-job.job c.index-jobs-job.result at c.in_default.ensures.none c.loop-job.invariant

pub stands_off-requires : goal.stands_off-requires
stands_off-requires c = none_in_hand c.args.jobs.now c.args.cpu c.loop-job.job (omega arith) c.loop-job.invariant
