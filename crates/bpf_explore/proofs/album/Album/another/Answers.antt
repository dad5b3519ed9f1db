use Rattle.std.proofs.Common.{◌∙◌, sym, subst}
use Rattle.bpf_explore.specs.Album.{FitsStock}
use Rattle.bpf_explore.specs.Private.Album.{AlbumState}
use Rattle.bpf_explore.proofs.AlbumLaws.{shelf_of, another_fits}
use Rattle.bpf_explore.proofs.album.Album.another.Goals as goal

pub another-requires : goal.another-requires
another-requires c = record {
  idle = c.in_ok-store.ensures.idle;
  cpus = λ k. c.in_ok-store.ensures.serves k ∙ sym (c.self.invariant.1.shape.1 k);
}

pub returns : goal.returns
returns c =
    let m = c.self.inside in
    let shelf = shelf_of m.machine.programs m.stores m.parts m.states.tuples in
    let is = c.in_ok-machine.ensures in
    subst (λ (a : AlbumState). FitsStock a.stock c.in_ok-machine.machine) c.self.view_is
    (another_fits m.shape shelf m.machine c.in_ok-machine.machine c.in_ok-store.store c.self.invariant.1 c.in_ok-store.ensures
    is.store is.programs is.jobs is.lists)
