use Rattle.std.proofs.Common.{◌<◌, List, length, sym, subst, arith}
use Rattle.bpf_machine.specs.Ends.{RunsFreely}
use Rattle.bpf_machine.specs.Machine.{MachineState}
use Rattle.bpf_machine.specs.Schedule.{unrolled}
use Rattle.std.proofs.lemmas.Result.{IfOk-weaker}
use Rattle.bpf_explore.specs.declared.explorer.Origin.{Origin}
use Rattle.bpf_explore.specs.Album.{LeadsFreely, PatientState}
use Rattle.bpf_explore.specs.Private.Trail.{AreOrigins}
use Rattle.bpf_explore.proofs.RunsLaws.{free_runs}
use Rattle.bpf_explore.proofs.patient.PatientExplorer.way.Goals as goal

pub way_back-requires : goal.way_back-requires
way_back-requires c =
    let m = c.self.inside in
    let same = sym c.deref.ensures.value in
    let there = subst (λ (a : PatientState). c.args.place < length a.kept) (sym c.self.view_is) c.requires in
    record {
      runs = free_runs;
      are = (m.album.kept, subst (AreOrigins RunsFreely m.album.kept) same c.self.invariant.0.0);
      place = subst (λ (os : List Origin). c.args.place < length os) same (omega (arith, there, c.self.invariant.0.0.count));
    }

pub returns : goal.returns
returns c = IfOk-weaker c.way_back.result (λ by. (kept : List MachineState) → AreOrigins RunsFreely kept c.deref.result.now → LeadsFreely
    kept 0 (unrolled by.items) c.args.place)
    (λ by. LeadsFreely c.args.self.now.kept 0 (unrolled by.items) c.args.place)
    (λ by led. subst (λ (a : PatientState). LeadsFreely a.kept 0 (unrolled by.items) c.args.place) c.self.view_is
    (led c.self.inside.album.kept (subst (AreOrigins RunsFreely c.self.inside.album.kept) (sym c.deref.ensures.value) c.self.invariant.0.0)))
    c.way_back.ensures
