use Rattle.std.proofs.Common.{rules, ◌+◌, None, ap, replicate, subst}
use Rattle.bpf_x86.specs.Machine.{TurnOf}
use Rattle.bpf_buffering.specs.Search.{BufferedState, RunsTo}
use Rattle.bpf_buffering.specs.Ahead.{MovesAhead}
use Rattle.bpf_buffering.specs.Album.{AlbumState}
use Rattle.bpf_buffering.proofs.AlbumLaws.{album_after, album_same, right_after}
use Rattle.bpf_buffering.proofs.Running.{turn_alone, turn_then, turns_then}
use Rattle.bpf_buffering.proofs.album.Album.turn_ahead.Goals as goal

-- the machine has made a turn
pub invariant_of-self : goal.invariant_of-self
invariant_of-self c =
    let m = c.self.inside in (
      album_after m.machine c.turn.new.self m.pools m.states m.store c.turn.ensures.host c.self.invariant.0,
      right_after m.machine c.turn.new.self m.classes c.turn.ensures.host c.self.invariant.1,
    )

pub invariant_of-self-then-eq : goal.invariant_of-self-then-eq
invariant_of-self-then-eq c =
    let m = c.self.inside in
    let same = ap (λ (s : BufferedState). s.machine.store) (c.in_ok-turn.ensures.idle (search rules)) in (
      album_same m.machine c.turn.new.self m.pools m.states m.store c.turn.ensures.host same c.self.invariant.0,
      right_after m.machine c.turn.new.self m.classes c.turn.ensures.host c.self.invariant.1,
    )

-- and those that are unseen after it
pub invariant_of-self-in_err-more : goal.invariant_of-self-in_err-more
invariant_of-self-in_err-more c =
    let m = c.self.inside in (
      album_after c.turn.new.self c.run_ahead.new.self m.pools m.states None c.run_ahead.ensures.host
          (album_after m.machine c.turn.new.self m.pools m.states m.store c.turn.ensures.host c.self.invariant.0),
      right_after c.turn.new.self c.run_ahead.new.self m.classes c.run_ahead.ensures.host
          (right_after m.machine c.turn.new.self m.classes c.turn.ensures.host c.self.invariant.1),
    )

pub invariant_of-self-2 : goal.invariant_of-self-2
invariant_of-self-2 c =
    let m = c.self.inside in (
      album_after c.turn.new.self c.run_ahead.new.self m.pools m.states None c.run_ahead.ensures.host
          (album_after m.machine c.turn.new.self m.pools m.states m.store c.turn.ensures.host c.self.invariant.0),
      right_after c.turn.new.self c.run_ahead.new.self m.classes c.run_ahead.ensures.host
          (right_after m.machine c.turn.new.self m.classes c.turn.ensures.host c.self.invariant.1),
    )

pub returns-then-eq-clause-moves : goal.returns-then-eq-clause-moves
returns-then-eq-clause-moves c =
    let m = c.self.inside in
    subst (λ (a : AlbumState). MovesAhead a.machine (TurnOf c.args.cpu) c.turn.new.self) c.self.view_is
    (turn_alone m.machine c.turn.new.self (TurnOf c.args.cpu) c.in_ok-turn.ensures.moves)

pub returns-clause-moves : goal.returns-clause-moves
returns-clause-moves c =
    let m = c.self.inside in
    subst (λ (a : AlbumState). MovesAhead a.machine (TurnOf c.args.cpu) c.settle.new.self.machine) c.self.view_is
    (turn_then m.machine c.turn.new.self c.run_ahead.new.self c.settle.new.self.machine c.args.cpu c.in_ok-more.more
    c.in_ok-turn.ensures.moves c.in_ok-more.ensures.unseen c.settle.ensures.shows)

pub returns-clause-turns : goal.returns-clause-turns
returns-clause-turns c =
    let m = c.self.inside in
    subst (λ (a : AlbumState). RunsTo a.machine (replicate (c.in_ok-more.more + 1) (TurnOf c.args.cpu)) c.settle.new.self.machine) c.self.view_is
    (turns_then m.machine c.turn.new.self c.run_ahead.new.self c.settle.new.self.machine c.args.cpu c.in_ok-more.more
    c.in_ok-turn.ensures.moves c.in_ok-more.ensures.unseen c.settle.ensures.shows)
