use Rattle.std.proofs.Common.{ap, subst, ◌∙◌}
use Rattle.bpf_machine.specs.Patient.{IsRefilled}
use Rattle.bpf_buffering.specs.Album.{AlbumState}
use Rattle.bpf_buffering.proofs.AlbumLaws.{album_same, filled_store, right_after, states_after}
use Rattle.bpf_buffering.proofs.album.Album.refill.Goals as goal

pub invariant_of-self : goal.invariant_of-self
invariant_of-self c =
    let m = c.self.inside in (
      album_same m.machine c.refill.new.self m.pools m.states m.store c.refill.ensures.host
          (filled_store m.machine.machine c.refill.new.self.machine c.args.cpu c.refill.ensures.refills) c.self.invariant.0,
      right_after m.machine c.refill.new.self m.classes c.refill.ensures.host c.self.invariant.1,
    )

pub returns-clause-refills : goal.returns-clause-refills
returns-clause-refills c =
    subst (λ (a : AlbumState). IsRefilled a.machine.machine c.args.cpu c.refill.new.self.machine) c.self.view_is c.refill.ensures.refills

pub returns-clause-buffers : goal.returns-clause-buffers
returns-clause-buffers c = c.refill.ensures.buffers ∙ ap (λ (a : AlbumState). a.machine.buffers) c.self.view_is

pub returns-clause-same : goal.returns-clause-same
returns-clause-same c =
    let m = c.self.inside in
    states_after m.machine c.refill.new.self m.pools m.states c.refill.ensures.host ∙ ap (λ (a : AlbumState). a.kept) c.self.view_is
