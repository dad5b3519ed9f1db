use Rattle.std.proofs.Common.{length, refl, sym, ◌∙◌, arith}
use Rattle.std.proofs.lemmas.Option.{slice_get_read}
use Rattle.bpf_buffering.specs.Jobs.{held_by}
use Rattle.bpf_buffering.proofs.Finding.{more_none, found_hand, none_in_hand}
use Rattle.bpf_buffering.proofs.jobs.find_hand.Goals as goal

pub returns-then-is_held_by-clause-some : goal.returns-then-is_held_by-clause-some
returns-then-is_held_by-clause-some c =
    let jobs = c.args.jobs.now in
    let at = slice_get_read jobs (length jobs) c.loop-job.job c.index-jobs-job.result refl (omega arith) c.index-jobs-job.is in
    found_hand jobs c.args.cpu c.loop-job.job c.index-jobs-job.result at (sym c.is_held_by.ensures ∙ c.if-is_held_by.true)

pub loop-job-preserved : goal.loop-job-preserved
loop-job-preserved c =
    let jobs = c.args.jobs.now in
    let at = slice_get_read jobs (length jobs) c.loop-job.job c.index-jobs-job.result refl (omega arith) c.index-jobs-job.is in
    more_none jobs (held_by c.args.cpu) c.loop-job.job c.index-jobs-job.result at (sym c.is_held_by.ensures ∙ c.if-is_held_by.false) c.loop-job.invariant

pub returns-clause-none : goal.returns-clause-none
returns-clause-none c = none_in_hand c.args.jobs.now c.args.cpu c.loop-job.job (omega arith) c.loop-job.invariant
