use Rattle.std.proofs.Common.{subst}
use Rattle.bpf_x86.specs.Machine.{TurnOf}
use Rattle.bpf_buffering.specs.Search.{MovesTo}
use Rattle.bpf_reorderings.specs.Private.Searching.{Searched}
use Rattle.bpf_reorderings.proofs.Replays.{turn_moves}
use Rattle.bpf_reorderings.proofs.explorer.Explorer.take_turn.Goals as goal

pub returns-clause-moves : goal.returns-clause-moves
returns-clause-moves c =
    let m = c.self.inside in
    subst (λ (a : Searched). MovesTo a.machine (TurnOf c.args.cpu) c.turn.new.self.machine) c.self.view_is
    (turn_moves m.album.machine c.turn.new.self.machine c.args.cpu c.in_ok-turn.field-0 c.in_ok-turn.ensures.turns)
