use Rattle.std.proofs.Common.{◌<◌, length, sym, subst}
use Rattle.bpf_explore.specs.Private.Album.{AlbumState}
use Rattle.bpf_explore.proofs.AlbumLaws.{shelf_of, kept_inside}
use Rattle.bpf_explore.proofs.album.Album.numbers.Goals as goal

pub tuple-requires : goal.tuple-requires
tuple-requires c =
    let m = c.self.inside in
    let shelf = shelf_of m.machine.programs m.stores m.parts m.states.tuples in
    kept_inside shelf c.args.place (subst (λ (a : AlbumState). c.args.place < length a.kept) (sym c.self.view_is) c.requires)
