use Rattle.std.proofs.Common.{arith}
use Rattle.bpf_sched.proofs.UnderWay.{is_new, is_served, is_idle, goes_on}
use Rattle.bpf_sched.proofs.workload.Workload.run_jobs.Goals as goal

pub run-requires-clause-new : goal.run-requires-clause-new
run-requires-clause-new g c =
    let S = g.S.Shared in
    is_new S.passes S.serves S.running S.held S.may_wear S.shapes c.args.programs.now c.args.self.now.cpu c.args.shared.now
    c.args.self.now.jobs.items c.requires.new c.loop-job.job c.loop-job.shared c.loop-job.self.cpu c.loop-job.self.jobs.items
    c.loop-job.invariant.way (omega arith) c.index_mut.result.now c.index_mut.ensures.value

pub run-requires-clause-serves : goal.run-requires-clause-serves
run-requires-clause-serves g c =
    let S = g.S.Shared in
    is_served S.passes S.serves S.running S.held S.may_wear S.shapes c.args.programs.now c.args.self.now.cpu c.args.shared.now
    c.args.self.now.jobs.items c.requires.new c.loop-job.job c.loop-job.shared c.loop-job.self.cpu c.loop-job.self.jobs.items
    c.loop-job.invariant.way (omega arith) c.index_mut.result.now c.index_mut.ensures.value c.requires.serves

pub run-requires-clause-idle : goal.run-requires-clause-idle
run-requires-clause-idle g c =
    let S = g.S.Shared in
    is_idle S.passes S.serves S.running S.held S.may_wear S.shapes c.args.programs.now c.args.self.now.cpu c.args.shared.now
    c.args.self.now.jobs.items c.requires.new c.loop-job.job c.loop-job.shared c.loop-job.self.cpu c.loop-job.self.jobs.items
    c.loop-job.invariant.way (omega arith) c.index_mut.result.now c.index_mut.ensures.value c.requires.idle

pub loop-job-preserved : goal.loop-job-preserved
loop-job-preserved g c =
    let S = g.S.Shared in
    record {
      way = goes_on S.passes S.serves S.running S.held S.may_wear S.shapes c.args.programs.now c.args.self.now.cpu c.args.shared.now
          c.args.self.now.jobs.items c.requires.new c.loop-job.job c.loop-job.shared c.loop-job.self.cpu c.loop-job.self.jobs.items
          c.loop-job.invariant.way (omega arith) c.index_mut.result.now c.index_mut.ensures.value c.run.new.self c.run.new.shared
          c.run.ensures.runs.0 c.run.ensures.runs.1 c.run.ensures.keeps;
      lists = c.loop-job.invariant.lists;
    }
