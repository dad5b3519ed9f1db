use Rattle.std.proofs.Common.{◌≡◌, [], ap, subst, ◌∙◌}
use Rattle.bpf_machine.specs.Parts.{IsSameHost}
use Rattle.bpf_x86.specs.Machine.{FlushOf}
use Rattle.bpf_buffering.specs.Search.{MovesTo, buffer_at}
use Rattle.bpf_buffering.specs.Album.{AlbumState}
use Rattle.bpf_buffering.proofs.AlbumLaws.{album_after, right_after, states_after}
use Rattle.bpf_buffering.proofs.album.Album.flush_alone.Goals as goal

pub invariant_of-self : goal.invariant_of-self
invariant_of-self c =
    let m = c.self.inside in (
      album_after m.machine c.flush.new.self m.pools m.states m.store c.flush.ensures.host c.self.invariant.0,
      right_after m.machine c.flush.new.self m.classes c.flush.ensures.host c.self.invariant.1,
    )

pub returns-clause-flushed : goal.returns-clause-flushed
returns-clause-flushed c is =
    subst (λ (a : AlbumState). MovesTo a.machine (FlushOf c.args.cpu) c.flush.new.self) c.self.view_is (c.flush.ensures.flushed is)

pub returns-clause-empty : goal.returns-clause-empty
returns-clause-empty c is =
    subst (λ (a : AlbumState). buffer_at a.machine.buffers c.args.cpu ≡ []) c.self.view_is (c.flush.ensures.empty is)

pub returns-clause-unchanged : goal.returns-clause-unchanged
returns-clause-unchanged c is = c.flush.ensures.unchanged is ∙ ap (λ (a : AlbumState). a.machine) c.self.view_is

pub returns-clause-host : goal.returns-clause-host
returns-clause-host c =
    subst (λ (a : AlbumState). IsSameHost a.machine.machine c.flush.new.self.machine) c.self.view_is c.flush.ensures.host

pub returns-clause-same : goal.returns-clause-same
returns-clause-same c =
    let m = c.self.inside in
    states_after m.machine c.flush.new.self m.pools m.states c.flush.ensures.host ∙ ap (λ (a : AlbumState). a.kept) c.self.view_is
