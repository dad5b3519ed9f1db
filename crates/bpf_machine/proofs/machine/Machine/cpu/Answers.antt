use Rattle.bpf_machine.proofs.WorkLaws.{state_told}
use Rattle.bpf_machine.proofs.machine.Machine.cpu.Goals as goal

pub returns-in-InHand-clause-state : goal.returns-in-InHand-clause-state
returns-in-InHand-clause-state c = state_told _ c.args.cpu c.standing.result _ c.in-InHand.is c.standing.ensures
