use Rattle.std.proofs.Common.{subst}
use Rattle.bpf_explore.specs.Album.{AlbumState, AreApart}
use Rattle.bpf_explore.proofs.spread.Spread.apart.Goals as goal

pub returns : goal.returns
returns g c = subst (λ (a : AlbumState). AreApart a.kept) c.self.view_is c.apart.ensures
