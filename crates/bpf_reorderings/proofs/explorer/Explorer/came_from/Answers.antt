use Rattle.std.proofs.Common.{◌<◌, length, sym, subst, arith}
use Rattle.bpf_reorderings.specs.declared.explorer.Origin.{Origin}
use Rattle.bpf_reorderings.specs.Private.Searching.{Searched}
use Rattle.bpf_reorderings.specs.Private.Trail.{IsOrigin, LeadsOn, moves_of}
use Rattle.bpf_reorderings.proofs.Trails.{read_origin}
use Rattle.bpf_reorderings.proofs.explorer.Explorer.came_from.Goals as goal

pub index-requires : goal.index-requires
index-requires c =
    let inside = subst (λ (a : Searched). c.args.place < length a.kept) (sym c.self.view_is) c.requires.1 in
    let count = c.self.invariant.count in
    omega arith

pub returns-clause-before : goal.returns-clause-before
returns-clause-before c =
    let origins = c.self.inside.origins.items in
    let inside = subst (λ (a : Searched). c.args.place < length a.kept) (sym c.self.view_is) c.requires.1 in
    let count = c.self.invariant.count in
    let at = read_origin origins c.args.place c.index.result.now (omega arith) c.index.ensures in
    subst (λ (o : Origin). o.«from» < c.args.place) at (c.self.invariant.each c.args.place c.requires.0 inside).before

pub returns-clause-leads : goal.returns-clause-leads
returns-clause-leads c =
    let m = c.self.inside in
    let inside = subst (λ (a : Searched). c.args.place < length a.kept) (sym c.self.view_is) c.requires.1 in
    let count = c.self.invariant.count in
    let o = c.index.result.now in
    let at = read_origin m.origins.items c.args.place o (omega arith) c.index.ensures in
    let is = subst (IsOrigin m.patient m.album.kept c.args.place) at (c.self.invariant.each c.args.place c.requires.0 inside) in
    subst (λ (a : Searched). LeadsOn a.patient a.kept o.«from» c.args.place) c.self.view_is (moves_of o, is.leads)
