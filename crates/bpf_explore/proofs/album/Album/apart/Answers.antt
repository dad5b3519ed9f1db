use Rattle.std.proofs.Common.{subst}
use Rattle.bpf_explore.specs.Album.{AlbumState, AreApart}
use Rattle.bpf_explore.proofs.AlbumLaws.{shelf_of}
use Rattle.bpf_explore.proofs.ApartLaws.{are_apart}
use Rattle.bpf_explore.proofs.album.Album.apart.Goals as goal

pub returns : goal.returns
returns c =
    let m = c.self.inside in
    let shelf = shelf_of m.machine.programs m.stores m.parts m.states.tuples in
    subst (λ (a : AlbumState). AreApart a.kept) c.self.view_is (are_apart m.shape shelf c.self.invariant.0 c.apart.ensures.apart
    c.apart.ensures.saved c.apart-2.ensures c.apart-3.ensures)
