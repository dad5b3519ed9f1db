use Rattle.std.proofs.Common.{ap, subst, ◌∙◌}
use Rattle.bpf_buffering.specs.Album.{AlbumState}
use Rattle.bpf_buffering.specs.Private.Kept.{ShowsAsMuch}
use Rattle.bpf_buffering.proofs.AlbumLaws.{album_settled, right_after, states_settled}
use Rattle.bpf_buffering.proofs.album.Album.settle.Goals as goal

pub invariant_of-self : goal.invariant_of-self
invariant_of-self c =
    let m = c.self.inside in (
      album_settled m.machine c.settle-store.new.machine m.pools c.settle-store.new.stores m.states m.store c.settle-store.ensures.host
          c.settle-store.ensures.adds c.self.invariant.0 c.settle-store.result c.settle-store.ensures.at,
      right_after m.machine c.settle-store.new.machine m.classes c.settle-store.ensures.host c.self.invariant.1,
    )

pub returns-clause-shows : goal.returns-clause-shows
returns-clause-shows c = subst (λ (a : AlbumState). ShowsAsMuch a.machine c.settle-store.new.machine) c.self.view_is c.settle-store.ensures.shows

pub returns-clause-same : goal.returns-clause-same
returns-clause-same c =
    let m = c.self.inside in
    states_settled m.machine c.settle-store.new.machine m.pools c.settle-store.new.stores m.states m.store c.settle-store.ensures.host
    c.settle-store.ensures.adds
    c.self.invariant.0 ∙ ap (λ (a : AlbumState). a.kept) c.self.view_is
