use Rattle.std.proofs.Common.{subst}
use Rattle.bpf_explore.specs.Album.{AlbumState}
use Rattle.bpf_explore.specs.Private.Peers.{AreOfKind}
use Rattle.bpf_explore.proofs.spread.Spread.of_kind.Goals as goal

pub returns : goal.returns
returns g c = subst (λ (a : AlbumState). AreOfKind a.stock a.kept) c.self.view_is c.of_kind.ensures
