use Rattle.std.proofs.Common.{◌≡◌, ◌∙◌, ℕ, Some, sym, ap, subst, arith}
use Rattle.std.specs.Prelude.{slice_get}
use Rattle.bpf_machine.specs.Hashes.{stage_hash}
use Rattle.bpf_machine.specs.Machine.{MachineState}
use Rattle.bpf_machine.specs.Private.KeyLists.{listings}
use Rattle.bpf_machine.specs.Private.Lanes.{stage_of}
use Rattle.bpf_machine.proofs.StandLaws.{entry_inside, job_inside, read_back, hashed_as}
use Rattle.bpf_machine.proofs.machine.Machine.hash_of_job.Goals as goal

pub index-listed-requires : goal.index-listed-requires
index-listed-requires c =
    let m = c.self.inside in
    omega (
      arith,
      job_inside m.lanes.items m.jobs.items c.args.self.now m.store m.programs.items (listings m.keys m.lists.items) c.args.job
          c.self.view_is c.requires,
      m.jobs.ok.0,
    )

pub index-requires : goal.index-requires
index-requires c =
    let m = c.self.inside in
    let inside = job_inside m.lanes.items m.jobs.items c.args.self.now m.store m.programs.items (listings m.keys m.lists.items) c.args.job
    c.self.view_is c.requires in
    omega (
      arith,
      entry_inside m.store m.programs.items m.jobs.items m.lanes.items (listings m.keys m.lists.items) c.self.invariant.0
          c.args.job c.index-listed.result.now inside c.index-listed.ensures,
      m.lanes.ok.0,
    )

pub returns : goal.returns
returns c task there =
    let m = c.self.inside in
    let e = c.index-listed.result.now in
    let inside = job_inside m.lanes.items m.jobs.items c.args.self.now m.store m.programs.items (listings m.keys m.lists.items) c.args.job
    c.self.view_is c.requires in
    let within = entry_inside m.store m.programs.items m.jobs.items m.lanes.items (listings m.keys m.lists.items) c.self.invariant.0
    c.args.job e inside c.index-listed.ensures in
    let at = subst (λ (s : MachineState). slice_get s.jobs c.args.job ≡ Some task) (sym c.self.view_is) there in
    c.hash_of_stage.ensures ∙ (ap (λ (n : ℕ). stage_hash n (stage_of c.index.result.now.hand e.phase)) c.mix-first.ensures ∙ hashed_as
    c.index.result.now e task (read_back m.jobs.items m.lanes.items c.args.job e c.index.result.now task inside c.index-listed.ensures
    within c.index.ensures at))
