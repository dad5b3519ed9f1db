use Rattle.std.proofs.Common.{arith}
use Rattle.bpf_machine.specs.Private.KeyLists.{listings}
use Rattle.bpf_machine.proofs.ProceedLaws.{job_in_hand, lane_within, job_within, never_empty, program_within, ready, ahead_board, ahead_one, ahead_goes}
use Rattle.bpf_machine.proofs.machine.Machine.run_job_ahead.Goals as goal

pub index_mut-lane-requires : goal.index_mut-lane-requires
index_mut-lane-requires c =
    let m = c.self.inside in
    let has = job_in_hand _ _ c.args.cpu c.args.job c.self.view_is c.requires in
    omega (arith, lane_within m.store m.programs.items m.jobs.items m.lanes.items c.self.invariant.0 c.args.cpu c.args.job has, m.lanes.ok.0)

pub unreachable-requires : goal.unreachable-requires
unreachable-requires c =
    let m = c.self.inside in
    let has = job_in_hand _ _ c.args.cpu c.args.job c.self.view_is c.requires in
    never_empty m.store m.programs.items m.jobs.items m.lanes.items c.self.invariant.0 c.args.cpu c.args.job has _
    c.index_mut-lane.ensures.value c.in_default.is

pub index-listed-requires : goal.index-listed-requires
index-listed-requires c =
    let m = c.self.inside in
    let has = job_in_hand _ _ c.args.cpu c.args.job c.self.view_is c.requires in
    omega (arith, job_within m.store m.programs.items m.jobs.items m.lanes.items c.self.invariant.0 c.args.cpu c.args.job has, m.jobs.ok.0)

pub index-requires : goal.index-requires
index-requires c =
    let m = c.self.inside in
    let has = job_in_hand _ _ c.args.cpu c.args.job c.self.view_is c.requires in
    omega (
      arith,
      program_within m.store m.programs.items m.jobs.items m.lanes.items c.self.invariant.0 c.args.cpu c.args.job has _
          c.index_mut-lane.ensures.value _ c.in-Some.is _ c.index-listed.ensures,
      m.programs.ok.0,
    )

pub run_ahead-requires : goal.run_ahead-requires
run_ahead-requires c =
    let m = c.self.inside in
    let has = job_in_hand _ _ c.args.cpu c.args.job c.self.view_is c.requires in
    record {
      ready = ready m.store m.programs.items m.jobs.items m.lanes.items c.self.invariant.0 c.args.cpu c.args.job has _
          c.index_mut-lane.ensures.value _ c.in-Some.is _ c.index-listed.ensures _ c.index.ensures;
    }

pub invariant_of-self : goal.invariant_of-self
invariant_of-self c =
    let m = c.self.inside in
    let has = job_in_hand _ _ c.args.cpu c.args.job c.self.view_is c.requires in (
      ahead_board m.store m.programs.items m.jobs.items m.lanes.items c.self.invariant.0 c.args.cpu c.args.job has _
          c.index_mut-lane.ensures.value _ c.in-Some.is _ c.index-listed.ensures _ c.index.ensures c.run_ahead.new.self
          c.run_ahead.ensures.same.0 c.run_ahead.ensures.same.1 c.run_ahead.ensures.ready c.run_ahead.ensures.held,
      c.self.invariant.1,
    )

pub returns-clause-goes : goal.returns-clause-goes
returns-clause-goes c =
    let m = c.self.inside in
    let has = job_in_hand _ _ c.args.cpu c.args.job c.self.view_is c.requires in
    ahead_goes m.store m.programs.items m.jobs.items m.lanes.items c.self.invariant.0 c.args.cpu c.args.job has _
    c.index_mut-lane.ensures.value _ c.in-Some.is _ c.index-listed.ensures _ c.index.ensures c.run_ahead.new.self
    c.run_ahead.ensures.same.0 c.run_ahead.ensures.same.1 c.run_ahead.ensures.ready (listings m.keys m.lists.items) c.args.self.now
    c.self.view_is c.run_ahead.result c.run_ahead.ensures.turns

pub returns-clause-one : goal.returns-clause-one
returns-clause-one c =
    let m = c.self.inside in
    let has = job_in_hand _ _ c.args.cpu c.args.job c.self.view_is c.requires in
    ahead_one m.store m.programs.items m.jobs.items m.lanes.items c.self.invariant.0 c.args.cpu c.args.job has _
    c.index_mut-lane.ensures.value _ c.in-Some.is _ c.index-listed.ensures _ c.index.ensures c.run_ahead.new.self
    c.run_ahead.ensures.same.0 c.run_ahead.ensures.same.1 c.run_ahead.ensures.ready c.run_ahead.ensures.held
