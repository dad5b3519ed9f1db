use Rattle.std.proofs.Common.{◌<◌, ◌∷◌, length, replicate, sym, subst, arith}
use Rattle.bpf_machine.specs.Ends.{RunsFreely}
use Rattle.bpf_explore.specs.declared.explorer.Origin.{Origin}
use Rattle.bpf_explore.specs.Album.{PatientState}
use Rattle.bpf_explore.specs.Private.Hung.{LeadsOn}
use Rattle.bpf_explore.specs.Private.Trail.{IsOrigin}
use Rattle.bpf_explore.proofs.TrailLaws.{free_runs_join, read_origin}
use Rattle.bpf_explore.proofs.patient.PatientExplorer.came_from.Goals as goal

pub index-requires : goal.index-requires
index-requires c =
    let inside = subst (λ (a : PatientState). c.args.place < length a.kept) (sym c.self.view_is) c.requires.1 in
    let count = c.self.invariant.0.0.count in
    omega arith

pub returns-clause-before : goal.returns-clause-before
returns-clause-before c =
    let origins = c.self.inside.origins.items in
    let inside = subst (λ (a : PatientState). c.args.place < length a.kept) (sym c.self.view_is) c.requires.1 in
    let count = c.self.invariant.0.0.count in
    let at = read_origin RunsFreely free_runs_join origins c.args.place c.index.result.now (omega arith) c.index.ensures in
    subst (λ (o : Origin). o.«from» < c.args.place) at (c.self.invariant.0.0.each c.args.place c.requires.0 inside).before

pub returns-clause-leads : goal.returns-clause-leads
returns-clause-leads c =
    let m = c.self.inside in
    let inside = subst (λ (a : PatientState). c.args.place < length a.kept) (sym c.self.view_is) c.requires.1 in
    let count = c.self.invariant.0.0.count in
    let o = c.index.result.now in
    let at = read_origin RunsFreely free_runs_join m.origins.items c.args.place o (omega arith) c.index.ensures in
    let is = subst (IsOrigin RunsFreely m.album.kept c.args.place) at (c.self.invariant.0.0.each c.args.place c.requires.0 inside) in
    subst (λ (a : PatientState). LeadsOn a.kept o.«from» c.args.place) c.self.view_is (o.cpu ∷ replicate o.ahead o.cpu, is.leads)
