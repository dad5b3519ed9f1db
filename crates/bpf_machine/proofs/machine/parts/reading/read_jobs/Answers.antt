use Rattle.std.proofs.Common.{◌<◌, length, take, arith, sym, subst}
use Rattle.std.proofs.lemmas.List.{length-set}
use Rattle.bpf_cpu.specs.Task.{Task}
use Rattle.bpf_machine.specs.Saved.{IsLater}
use Rattle.bpf_plain.proofs.Options.{at_some, at_none}
use Rattle.bpf_machine.proofs.JobLemmas.{later_set, saved_set, reads_stop}
use Rattle.bpf_machine.proofs.machine.parts.reading.read_jobs.Goals as goal

pub returns-in_default-clause-none : goal.returns-in_default-clause-none
returns-in_default-clause-none c = λ others more are may e.
    let first = c.index-first-job.result in
    let inside : c.loop-job.job < length c.args.first.now = omega (arith, c.loop-job.auto.job-end, c.loop-job-test.true) in
    reads_stop c.args.first.now (take c.loop-job.job c.loop-job.jobs) others c.loop-job.job first c.args.bytes.now c.loop-job.rest.now more
    inside c.loop-job.invariant.later c.loop-job.invariant.read
    (λ task last is held f. at_none _ _ c.in_default.is c.in_ok-behind.ensures.none task last
    (subst (λ (t : Task). IsLater t task) (sym c.index-first-job.is) is) held f)
    are may e

pub loop-job-preserved : goal.loop-job-preserved
loop-job-preserved c =
    let first = c.index-first-job.result in
    let jobs = c.loop-job.jobs in
    let task : Task = c.read.new.self in
    let inside : c.loop-job.job < length c.args.first.now = omega (arith, c.loop-job.auto.job-end, c.loop-job-test.true) in
    let within : c.loop-job.job < length jobs = omega (arith, c.loop-job.invariant.count, inside) in
    let is : IsLater first task = at_some _ _ _ c.in-Some.is c.in_ok-behind.ensures.later in
    record {
      count = omega (arith, length-set jobs c.loop-job.job task, c.loop-job.invariant.count);
      later = later_set c.args.first.now jobs c.loop-job.job first task inside within c.loop-job.invariant.later
          (subst (λ (t : Task). IsLater t task) c.index-first-job.is is);
      read = saved_set c.args.bytes.now c.loop-job.rest.now c.in-Some.behind.now jobs c.loop-job.job task within c.loop-job.invariant.read
          (at_some _ _ _ c.in-Some.is c.in_ok-behind.ensures.some);
    }
