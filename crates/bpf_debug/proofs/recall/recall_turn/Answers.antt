use Rattle.std.proofs.Common.{refl, sym, ◌∙◌}
use Rattle.bpf_debug.proofs.RecallLaws.{kept_turn, other_turn, passed_turn}
use Rattle.bpf_debug.proofs.recall.recall_turn.Goals as goal

pub returns-then-turns_of-cpu-clause-made : goal.returns-then-turns_of-cpu-clause-made
returns-then-turns_of-cpu-clause-made c =
    other_turn c.args.machine.now c.turn.new.self c.args.turns_of c.args.kind c.args.cpu c.args.recall c.turn.result c.if-turns_of-cpu.true c.turn.ensures.turn

pub returns-then-is_of-clause-made : goal.returns-then-is_of-clause-made
returns-then-is_of-clause-made c =
    kept_turn c.args.machine.now c.turn-turn.new.self c.args.turns_of c.args.kind c.args.cpu c.args.recall
    (record { stand = c.stand_of-stand.result; turn = c.turn-turn.result }) c.turn-turn.result
    c.if-turns_of-cpu.false (sym c.is_of.ensures ∙ c.if-is_of.true) c.stand_of-stand.ensures refl c.turn-turn.ensures.turn

pub returns-else-is_of-clause-made : goal.returns-else-is_of-clause-made
returns-else-is_of-clause-made c =
    passed_turn c.args.machine.now c.turn-turn.new.self c.args.turns_of c.args.kind c.args.cpu c.args.recall c.turn-turn.result
    c.if-turns_of-cpu.false (sym c.is_of.ensures ∙ c.if-is_of.false) c.turn-turn.ensures.turn
