use Rattle.std.proofs.Common.{refl, sym, subst, ◌∙◌}
use Rattle.bpf_buffering.specs.Search.{BufferedState}
use Rattle.bpf_debug.specs.Recall.{IsStand}
use Rattle.bpf_buffer_debug.proofs.RecallLaws.{kept_turn, passed_turn}
use Rattle.bpf_buffer_debug.proofs.recall.recall_turn.Goals as goal

pub returns-then-is_counted-clause-made : goal.returns-then-is_counted-clause-made
returns-then-is_counted-clause-made c =
    let old = c.args.album.now.machine in
    let stand = c.stand_of-stand.result in
    let stands = subst (λ (m : BufferedState). IsStand m.machine.jobs c.args.turns_of stand) c.machine.ensures c.stand_of-stand.ensures in
    kept_turn c.args.kind c.args.cpu c.args.turns_of old c.turn.new.self.machine c.args.recall (record { stand = stand; turn = c.in_ok-turn.turn })
    c.in_ok-turn.turn (sym c.is_counted.ensures ∙ c.if-is_counted.true) stands refl c.in_ok-turn.ensures.turns

pub returns-else-is_counted-clause-made : goal.returns-else-is_counted-clause-made
returns-else-is_counted-clause-made c =
    passed_turn c.args.kind c.args.cpu c.args.turns_of c.args.album.now.machine c.turn.new.self.machine c.args.recall c.in_ok-turn.turn
    (sym c.is_counted.ensures ∙ c.if-is_counted.false) c.in_ok-turn.ensures.turns
