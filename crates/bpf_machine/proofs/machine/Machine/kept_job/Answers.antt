use Rattle.std.proofs.Common.{◌≡◌, Some, subst, arith}
use Rattle.std.specs.Prelude.{slice_get}
use Rattle.bpf_cpu.specs.Task.{Task}
use Rattle.bpf_machine.specs.Machine.{MachineState}
use Rattle.bpf_machine.specs.Kept.{compact_stage}
use Rattle.bpf_machine.specs.Private.KeyLists.{listings}
use Rattle.bpf_machine.proofs.StandLaws.{entry_inside, job_inside, read_task}
use Rattle.bpf_machine.proofs.machine.Machine.kept_job.Goals as goal

pub index-listed-requires : goal.index-listed-requires
index-listed-requires c =
    let m = c.self.inside in
    omega (
      arith,
      job_inside m.lanes.items m.jobs.items c.args.self.now m.store m.programs.items (listings m.keys m.lists.items) c.args.job
          c.self.view_is c.requires,
      m.jobs.ok.0,
    )

pub index-requires : goal.index-requires
index-requires c =
    let m = c.self.inside in
    let inside = job_inside m.lanes.items m.jobs.items c.args.self.now m.store m.programs.items (listings m.keys m.lists.items) c.args.job
    c.self.view_is c.requires in
    omega (
      arith,
      entry_inside m.store m.programs.items m.jobs.items m.lanes.items (listings m.keys m.lists.items) c.self.invariant.0
          c.args.job c.index-listed.result.now inside c.index-listed.ensures,
      m.lanes.ok.0,
    )

pub returns : goal.returns
returns c =
    let m = c.self.inside in
    let e = c.index-listed.result.now in
    let inside = job_inside m.lanes.items m.jobs.items c.args.self.now m.store m.programs.items (listings m.keys m.lists.items) c.args.job
    c.self.view_is c.requires in
    let within = entry_inside m.store m.programs.items m.jobs.items m.lanes.items (listings m.keys m.lists.items) c.self.invariant.0
    c.args.job e inside c.index-listed.ensures in
    let task : Task = record { cpu = e.cpu; program = e.program; budget = e.budget; stage = compact_stage c.in_ok-stage.stage } in
    let at = read_task m.jobs.items m.lanes.items c.args.job e c.index.result.now (compact_stage c.in_ok-stage.stage) inside
    c.index-listed.ensures within c.index.ensures c.in_ok-stage.ensures in
    subst (λ (s : MachineState). slice_get s.jobs c.args.job ≡ Some task) c.self.view_is at
