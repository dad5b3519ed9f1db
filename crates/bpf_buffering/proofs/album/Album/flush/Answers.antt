use Rattle.std.proofs.Common.{ap, subst, sym, ◌∙◌}
use Rattle.bpf_x86.specs.Machine.{FlushOf}
use Rattle.bpf_buffering.specs.Search.{BufferedState, MovesTo, CannotMove}
use Rattle.bpf_buffering.specs.Album.{AlbumState}
use Rattle.bpf_buffering.specs.Private.Kept.{IsAlbum}
use Rattle.bpf_buffering.proofs.AlbumLaws.{album_after, right_after, states_after, moves_too}
use Rattle.bpf_buffering.proofs.album.Album.flush.Goals as goal

pub invariant_of-self : goal.invariant_of-self
invariant_of-self c =
    let m = c.self.inside in (
      subst (λ (b : BufferedState). IsAlbum b m.pools m.states m.store) (sym (c.flush.ensures.unchanged c.if-not-flush.true)) c.self.invariant.0,
      right_after m.machine c.flush.new.self m.classes c.flush.ensures.host c.self.invariant.1,
    )

pub invariant_of-self-2 : goal.invariant_of-self-2
invariant_of-self-2 c =
    let m = c.self.inside in (
      album_after m.machine c.flush.new.self m.pools m.states m.store c.flush.ensures.host c.self.invariant.0,
      right_after m.machine c.flush.new.self m.classes c.flush.ensures.host c.self.invariant.1,
    )

pub returns-then-not-flush-clause-none : goal.returns-then-not-flush-clause-none
returns-then-not-flush-clause-none c is =
    subst (λ (a : AlbumState). CannotMove a.machine (FlushOf c.args.cpu)) c.self.view_is (c.flush.ensures.none c.if-not-flush.true)

pub returns-then-not-flush-clause-unchanged : goal.returns-then-not-flush-clause-unchanged
returns-then-not-flush-clause-unchanged c is = c.flush.ensures.unchanged c.if-not-flush.true ∙ ap (λ (a : AlbumState). a.machine) c.self.view_is

pub returns-then-not-flush-clause-same : goal.returns-then-not-flush-clause-same
returns-then-not-flush-clause-same c =
    let m = c.self.inside in
    states_after m.machine c.flush.new.self m.pools m.states c.flush.ensures.host ∙ ap (λ (a : AlbumState). a.kept) c.self.view_is

pub returns-clause-flushed : goal.returns-clause-flushed
returns-clause-flushed c is =
    let m = c.self.inside in
    let moves = moves_too m.machine c.flush.new.self c.settle.new.self.machine (FlushOf c.args.cpu)
    (c.flush.ensures.flushed c.if-not-flush.false) c.settle.ensures.shows in
    subst (λ (a : AlbumState). MovesTo a.machine (FlushOf c.args.cpu) c.settle.new.self.machine) c.self.view_is moves

pub returns-clause-same : goal.returns-clause-same
returns-clause-same c =
    let m = c.self.inside in
    c.settle.ensures.same ∙ states_after m.machine c.flush.new.self m.pools m.states c.flush.ensures.host
    ∙ ap (λ (a : AlbumState). a.kept) c.self.view_is
