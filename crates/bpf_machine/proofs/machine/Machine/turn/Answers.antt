use Rattle.bpf_machine.proofs.TurnLaws.{begun_in_hand, turn_in_hand, turn_begins, turn_idle}
use Rattle.bpf_machine.proofs.ComingFrom.{begins_same, stays_same}
use Rattle.bpf_machine.proofs.OthersLaws.{begins_others, others_twice, stays_others}
use Rattle.bpf_machine.proofs.machine.Machine.turn.Goals as goal

pub proceed-requires-in-Waiting : goal.proceed-requires-in-Waiting
proceed-requires-in-Waiting c = begun_in_hand c.args.self.now c.begin.new.self c.args.cpu c.in-Waiting.job c.begin.ensures.begins

pub returns-in-InHand-clause-turn : goal.returns-in-InHand-clause-turn
returns-in-InHand-clause-turn c = turn_in_hand c.args.self.now c.proceed.new.self c.args.cpu c.in-InHand.job c.proceed.result
    c.in-InHand.ensures c.proceed.ensures.proceeds

pub returns-in-Waiting-clause-turn : goal.returns-in-Waiting-clause-turn
returns-in-Waiting-clause-turn c =
    turn_begins c.args.self.now c.begin.new.self c.proceed-in-Waiting.new.self c.args.cpu c.in-Waiting.job c.proceed-in-Waiting.result
    c.in-Waiting.ensures c.begin.ensures.begins c.proceed-in-Waiting.ensures.proceeds

pub returns-in-Nothing-clause-turn : goal.returns-in-Nothing-clause-turn
returns-in-Nothing-clause-turn c = turn_idle c.args.self.now c.args.cpu c.in-Nothing.ensures.0 c.in-Nothing.ensures.1

pub returns-in-InHand-clause-jobs : goal.returns-in-InHand-clause-jobs
returns-in-InHand-clause-jobs c = stays_same c.args.self.now.jobs c.proceed.new.self.jobs c.args.cpu c.in-InHand.job c.proceed.ensures.stays

pub returns-in-Waiting-clause-jobs : goal.returns-in-Waiting-clause-jobs
returns-in-Waiting-clause-jobs c = λ first come.
    stays_same c.begin.new.self.jobs c.proceed-in-Waiting.new.self.jobs c.args.cpu c.in-Waiting.job c.proceed-in-Waiting.ensures.stays first
    (begins_same c.args.self.now c.begin.new.self c.args.cpu c.in-Waiting.job c.begin.ensures.begins first come)

pub returns-in-Nothing-clause-jobs : goal.returns-in-Nothing-clause-jobs
returns-in-Nothing-clause-jobs c = λ first come. come

pub returns-in-InHand-clause-others : goal.returns-in-InHand-clause-others
returns-in-InHand-clause-others c = stays_others c.args.self.now.jobs c.proceed.new.self.jobs c.args.cpu c.in-InHand.job c.proceed.ensures.stays

pub returns-in-Waiting-clause-others : goal.returns-in-Waiting-clause-others
returns-in-Waiting-clause-others c = others_twice c.args.self.now.jobs c.begin.new.self.jobs c.proceed-in-Waiting.new.self.jobs c.args.cpu
    (begins_others c.args.self.now c.begin.new.self c.args.cpu c.in-Waiting.job c.begin.ensures.begins)
    (stays_others c.begin.new.self.jobs c.proceed-in-Waiting.new.self.jobs c.args.cpu c.in-Waiting.job c.proceed-in-Waiting.ensures.stays)

pub returns-in-Nothing-clause-others : goal.returns-in-Nothing-clause-others
returns-in-Nothing-clause-others c = λ j task there differs. there
