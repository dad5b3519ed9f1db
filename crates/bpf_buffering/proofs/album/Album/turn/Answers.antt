use Rattle.std.proofs.Common.{ap, subst, ◌∙◌}
use Rattle.std.specs.Prelude.{IfOk}
use Rattle.bpf_machine.specs.Parts.{IsSameHost}
use Rattle.bpf_buffering.specs.Buffering.{TurnsTo}
use Rattle.bpf_buffering.specs.Album.{AlbumState}
use Rattle.bpf_buffering.proofs.AlbumLaws.{album_after, right_after, states_after}
use Rattle.bpf_buffering.proofs.album.Album.turn.Goals as goal

pub invariant_of-self : goal.invariant_of-self
invariant_of-self c =
    let m = c.self.inside in (
      album_after m.machine c.turn.new.self m.pools m.states m.store c.turn.ensures.host c.self.invariant.0,
      right_after m.machine c.turn.new.self m.classes c.turn.ensures.host c.self.invariant.1,
    )

pub returns-clause-turns : goal.returns-clause-turns
returns-clause-turns c =
    subst (λ (a : AlbumState). IfOk c.turn.result (λ turn. TurnsTo a.machine c.args.cpu turn c.turn.new.self)) c.self.view_is
    c.turn.ensures.turns

pub returns-clause-host : goal.returns-clause-host
returns-clause-host c =
    subst (λ (a : AlbumState). IsSameHost a.machine.machine c.turn.new.self.machine) c.self.view_is c.turn.ensures.host

pub returns-clause-same : goal.returns-clause-same
returns-clause-same c =
    let m = c.self.inside in
    states_after m.machine c.turn.new.self m.pools m.states c.turn.ensures.host ∙ ap (λ (a : AlbumState). a.kept) c.self.view_is
