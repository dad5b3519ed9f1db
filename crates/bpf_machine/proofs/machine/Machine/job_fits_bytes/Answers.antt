use Rattle.std.proofs.Common.{◌≡◌, Some, sym, subst, arith}
use Rattle.std.specs.Prelude.{slice_get}
use Rattle.bpf_machine.specs.Saved.{FitsBytes}
use Rattle.bpf_cpu.specs.Task.{Stage}
use Rattle.bpf_machine.specs.Machine.{MachineState}
use Rattle.bpf_machine.specs.Private.KeyLists.{listings}
use Rattle.bpf_machine.proofs.StandLaws.{entry_inside, job_inside, read_back}
use Rattle.bpf_machine.proofs.machine.Machine.job_fits_bytes.Goals as goal

pub index-listed-requires : goal.index-listed-requires
index-listed-requires c =
    let m = c.self.inside in
    omega (
      arith,
      job_inside m.lanes.items m.jobs.items c.args.self.now m.store m.programs.items (listings m.keys m.lists.items) c.args.job
          c.self.view_is c.requires,
      m.jobs.ok.0,
    )

pub index-requires : goal.index-requires
index-requires c =
    let m = c.self.inside in
    let inside = job_inside m.lanes.items m.jobs.items c.args.self.now m.store m.programs.items (listings m.keys m.lists.items) c.args.job
    c.self.view_is c.requires in
    omega (
      arith,
      entry_inside m.store m.programs.items m.jobs.items m.lanes.items (listings m.keys m.lists.items) c.self.invariant.0
          c.args.job c.index-listed.result.now inside c.index-listed.ensures,
      m.lanes.ok.0,
    )

pub returns : goal.returns
returns c = λ task there.
    let m = c.self.inside in
    let e = c.index-listed.result.now in
    let inside = job_inside m.lanes.items m.jobs.items c.args.self.now m.store m.programs.items (listings m.keys m.lists.items) c.args.job
    c.self.view_is c.requires in
    let within = entry_inside m.store m.programs.items m.jobs.items m.lanes.items (listings m.keys m.lists.items) c.self.invariant.0
    c.args.job e inside c.index-listed.ensures in
    let at = subst (λ (s : MachineState). slice_get s.jobs c.args.job ≡ Some task) (sym c.self.view_is) there in
    let read = read_back m.jobs.items m.lanes.items c.args.job e c.index.result.now task inside c.index-listed.ensures within c.index.ensures at in
    let F : Stage → Type 0 = FitsBytes in
    subst F (sym read.stage) c.stage_fits_bytes.ensures
