use Rattle.bpf_machine.proofs.WorkLaws.{works}
use Rattle.bpf_machine.proofs.machine.Machine.work.Goals as goal

pub returns-in-InHand : goal.returns-in-InHand
returns-in-InHand c = works _ c.args.cpu c.standing.result _ c.in-InHand.is c.standing.ensures
