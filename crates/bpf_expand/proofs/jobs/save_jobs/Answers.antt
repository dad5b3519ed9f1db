use Rattle.std.proofs.Common.{◌<◌, length, get_or, arith}
use Rattle.std.proofs.lemmas.Option.{slice_get-get_or}
use Rattle.bpf_cpu.specs.Task.{Task}
use Rattle.bpf_machine.specs.Parts.{no_task}
use Rattle.bpf_expand.proofs.Lists.{saved_next}
use Rattle.bpf_expand.proofs.jobs.save_jobs.Goals as goal

pub loop-job-preserved : goal.loop-job-preserved
loop-job-preserved c =
    let jobs = c.args.machine.now.jobs in
    let inside : c.loop-job.job < length jobs = omega (arith, c.loop-job.auto.job-end, c.loop-job-test.true) in
    let task : Task = get_or jobs c.loop-job.job no_task in
    let there = slice_get-get_or jobs c.loop-job.job no_task inside in
    saved_next c.loop-job.out.items c.save_job.new.out.items c.args.out.now.items jobs c.loop-job.job task there c.loop-job.invariant
    (c.in_ok-save_job.ensures.ok task there)
