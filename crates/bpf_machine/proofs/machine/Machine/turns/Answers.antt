use Rattle.std.proofs.Common.{arith}
use Rattle.bpf_machine.proofs.TurnLaws.{next_turn, all_turns}
use Rattle.bpf_machine.proofs.machine.Machine.turns.Goals as goal

pub loop-cpu-preserved : goal.loop-cpu-preserved
loop-cpu-preserved c = next_turn c.args.self.now c.loop-cpu.self c.turn.new.self c.args.schedule.now c.loop-cpu.cpu-index c.turn.result
    (omega arith) c.loop-cpu.invariant c.turn.ensures.turn

pub returns : goal.returns
returns c = all_turns c.args.self.now c.loop-cpu.self c.args.schedule.now c.loop-cpu.cpu-index (omega arith) c.loop-cpu.invariant
