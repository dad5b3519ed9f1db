use Rattle.std.proofs.Common.{◌≡◌, suc, ◌-◌, Some, refl, arith}
use Rattle.bpf_machine.proofs.AdvanceLaws.{no_step_leads, step_leads, last_step, not_last_step}
use Rattle.bpf_cpu.proofs.ContextLaws.{step_keeps}
use Rattle.bpf_machine.proofs.machine.lane.Hand.advance.Goals as goal

pub returns-then-self-eq0-clause-advance : goal.returns-then-self-eq0-clause-advance
returns-then-self-eq0-clause-advance c =
    let hand = c.args.self.now in
    no_step_leads c.args.program.now c.args.store.now c.args.store.now hand.cpu hand.cpu hand.left (omega arith)

pub returns-in-Done-clause-advance : goal.returns-in-Done-clause-advance
returns-in-Done-clause-advance c =
    let hand = c.args.self.now in
    let more : hand.left ≡ suc (hand.left - 1) = omega arith in
    step_leads c.args.program.now c.args.store.now c.step.new.shared hand.cpu c.step.new.self _ hand.left (hand.left - 1)
    (Some c.in-Done.outcome) more refl c.in-Done.ensures.step

pub returns-in-On-clause-advance : goal.returns-in-On-clause-advance
returns-in-On-clause-advance c =
    let hand = c.args.self.now in
    let more : hand.left ≡ suc (hand.left - 1) = omega arith in
    step_leads c.args.program.now c.args.store.now c.step.new.shared hand.cpu c.step.new.self _ hand.left (hand.left - 1) _ more
    (last_step (hand.left - 1) c.step.new.self c.if-self-eq0-2.true) c.in-On.ensures.step

pub returns-in-On-2-clause-advance : goal.returns-in-On-2-clause-advance
returns-in-On-2-clause-advance c =
    let hand = c.args.self.now in
    let more : hand.left ≡ suc (hand.left - 1) = omega arith in
    step_leads c.args.program.now c.args.store.now c.step.new.shared hand.cpu c.step.new.self _ hand.left (hand.left - 1) _ more
    (not_last_step (hand.left - 1) c.step.new.self c.if-self-eq0-2.false) c.in-On.ensures.step

pub returns-in-Done-clause-job : goal.returns-in-Done-clause-job
returns-in-Done-clause-job c = step_keeps _ _ _ _ _ _ c.in-Done.ensures.step.2

pub returns-in-On-clause-job : goal.returns-in-On-clause-job
returns-in-On-clause-job c = step_keeps _ _ _ _ _ _ c.in-On.ensures.step.2

pub returns-in-On-2-clause-job : goal.returns-in-On-2-clause-job
returns-in-On-2-clause-job c = step_keeps _ _ _ _ _ _ c.in-On.ensures.step.2
