use Rattle.std.proofs.Common.{◌≡◌, Some, sym, subst, arith}
use Rattle.std.specs.Prelude.{slice_get}
use Rattle.bpf_machine.specs.Machine.{MachineState}
use Rattle.bpf_machine.specs.Private.KeyLists.{listings}
use Rattle.bpf_machine.proofs.StandLaws.{entry_inside, job_inside, read_as, read_back}
use Rattle.bpf_machine.proofs.machine.Machine.is_kept_job.Goals as goal

pub index-listed-requires : goal.index-listed-requires
index-listed-requires c =
    let m = c.self.inside in
    omega (
      arith,
      job_inside m.lanes.items m.jobs.items c.args.self.now m.store m.programs.items (listings m.keys m.lists.items) c.args.job
          c.self.view_is c.requires,
      m.jobs.ok.0,
    )

pub index-requires : goal.index-requires
index-requires c =
    let m = c.self.inside in
    let inside = job_inside m.lanes.items m.jobs.items c.args.self.now m.store m.programs.items (listings m.keys m.lists.items) c.args.job
    c.self.view_is c.requires in
    omega (
      arith,
      entry_inside m.store m.programs.items m.jobs.items m.lanes.items (listings m.keys m.lists.items) c.self.invariant.0
          c.args.job c.index-listed.result.now inside c.index-listed.ensures,
      m.lanes.ok.0,
    )

pub returns-clause-same : goal.returns-clause-same
returns-clause-same c same =
    let m = c.self.inside in
    let e = c.index-listed.result.now in
    let inside = job_inside m.lanes.items m.jobs.items c.args.self.now m.store m.programs.items (listings m.keys m.lists.items) c.args.job
    c.self.view_is c.requires in
    let within = entry_inside m.store m.programs.items m.jobs.items m.lanes.items (listings m.keys m.lists.items) c.self.invariant.0
    c.args.job e inside c.index-listed.ensures in
    let at = read_as m.jobs.items m.lanes.items c.args.job e c.index.result.now c.args.kept.now inside c.index-listed.ensures within
    c.index.ensures (c.is_at.ensures.same same) in
    subst (λ (s : MachineState). slice_get s.jobs c.args.job ≡ Some c.args.kept.now) c.self.view_is at

pub returns-clause-differs : goal.returns-clause-differs
returns-clause-differs c differs there =
    let m = c.self.inside in
    let e = c.index-listed.result.now in
    let inside = job_inside m.lanes.items m.jobs.items c.args.self.now m.store m.programs.items (listings m.keys m.lists.items) c.args.job
    c.self.view_is c.requires in
    let within = entry_inside m.store m.programs.items m.jobs.items m.lanes.items (listings m.keys m.lists.items) c.self.invariant.0
    c.args.job e inside c.index-listed.ensures in
    let at = subst (λ (s : MachineState). slice_get s.jobs c.args.job ≡ Some c.args.kept.now) (sym c.self.view_is) there in
    c.is_at.ensures.differs differs (read_back m.jobs.items m.lanes.items c.args.job e c.index.result.now c.args.kept.now inside
    c.index-listed.ensures within c.index.ensures at)
