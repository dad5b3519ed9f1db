use Rattle.std.proofs.Common.{◌<◌, List, length, sym, subst, arith}
use Rattle.std.proofs.lemmas.Result.{IfOk-weaker}
use Rattle.bpf_machine.specs.Machine.{MachineState}
use Rattle.bpf_machine.specs.Schedule.{RunsSchedule, unrolled}
use Rattle.bpf_explore.specs.declared.explorer.Origin.{Origin}
use Rattle.bpf_explore.specs.Album.{AlbumState, LeadsFrom}
use Rattle.bpf_explore.specs.Private.Trail.{AreOrigins}
use Rattle.bpf_explore.proofs.RunsLaws.{strict_runs}
use Rattle.bpf_explore.proofs.explorer.Explorer.way.Goals as goal

pub way_back-requires : goal.way_back-requires
way_back-requires c =
    let m = c.self.inside in
    let same = sym c.deref.ensures.value in
    let count = c.self.invariant.0.count in
    let there : c.args.place < length m.album.kept = subst (λ (a : AlbumState). c.args.place < length a.kept) (sym c.self.view_is) c.requires in
    let inside : c.args.place < length m.origins.items = omega arith in
    record {
      runs = strict_runs;
      are = (m.album.kept, subst (AreOrigins RunsSchedule m.album.kept) same c.self.invariant.0);
      place = subst (λ (os : List Origin). c.args.place < length os) same inside;
    }

pub returns : goal.returns
returns c =
    let m = c.self.inside in
    let are = subst (AreOrigins RunsSchedule m.album.kept) (sym c.deref.ensures.value) c.self.invariant.0 in
    IfOk-weaker c.way_back.result (λ by. (kept : List MachineState) → AreOrigins RunsSchedule kept c.deref.result.now
    → LeadsFrom kept 0 (unrolled by.items) c.args.place) (λ by. LeadsFrom c.args.self.now.kept 0 (unrolled by.items) c.args.place)
    (λ by leads. subst (λ (a : AlbumState). LeadsFrom a.kept 0 (unrolled by.items) c.args.place) c.self.view_is (leads m.album.kept are))
    c.way_back.ensures
