use Rattle.std.proofs.Common.{◌∙◌, length, sym, ap}
use Rattle.bpf_explore.specs.Private.Album.{AlbumState}
use Rattle.bpf_explore.proofs.ShelfLaws.{machines_length}
use Rattle.bpf_explore.proofs.AlbumLaws.{shelf_of}
use Rattle.bpf_explore.proofs.album.Album.len.Goals as goal

pub returns : goal.returns
returns c =
    let m = c.self.inside in
    c.count.ensures.count ∙ (sym (machines_length (shelf_of m.machine.programs m.stores m.parts m.states.tuples) m.states.tuples.count) ∙ ap
    (λ (a : AlbumState). length a.kept) c.self.view_is)
