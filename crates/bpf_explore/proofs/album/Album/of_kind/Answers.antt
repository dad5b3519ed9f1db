use Rattle.std.proofs.Common.{subst}
use Rattle.bpf_explore.specs.Album.{AlbumState}
use Rattle.bpf_explore.specs.Private.Peers.{AreOfKind}
use Rattle.bpf_explore.proofs.AlbumLaws.{shelf_of}
use Rattle.bpf_explore.proofs.ExchangeLaws.{each_of_kind}
use Rattle.bpf_explore.proofs.album.Album.of_kind.Goals as goal

pub returns : goal.returns
returns c =
    let m = c.self.inside in
    let shelf = shelf_of m.machine.programs m.stores m.parts m.states.tuples in
    subst (λ (a : AlbumState). AreOfKind a.stock a.kept) c.self.view_is (each_of_kind m.shape shelf c.self.invariant.0)
