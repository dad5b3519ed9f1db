use Rattle.std.proofs.Common.{refl, subst}
use Rattle.bpf_explore.specs.Album.{AlbumState}
use Rattle.bpf_explore.specs.Search.{Alike, IsTurned}
use Rattle.bpf_explore.proofs.SearchLaws.{idle_turned}
use Rattle.bpf_explore.proofs.explorer.Explorer.make_unnoted.Goals as goal

pub returns-then-not-has_work-clause-turned : goal.returns-then-not-has_work-clause-turned
returns-then-not-has_work-clause-turned c =
    let m = c.self.inside in
    subst (λ (a : AlbumState). IsTurned Alike a.kept c.args.place c.args.cpu) c.self.view_is
    (idle_turned Alike m.album.kept c.args.place c.args.cpu (c.if-not-has_work.ensures refl))
