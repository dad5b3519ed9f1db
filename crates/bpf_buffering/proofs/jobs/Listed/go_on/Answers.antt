use Rattle.std.proofs.Common.{Some, None, refl, ap}
use Rattle.bpf_cpu.specs.Task.{Ended}
use Rattle.bpf_machine.specs.Kept.{kept_stage}
use Rattle.bpf_buffering.proofs.Advancing.{goes_kept, goes_ended}
use Rattle.bpf_buffering.proofs.Stepping.{kept_in_hand, hand_fits, cpu_stays, number_now, serves_now, runs_now, step_leaves, stays_fit}
use Rattle.bpf_buffering.proofs.Stepping.{cpu_last, off_now, end_leaves}
use Rattle.bpf_buffering.proofs.jobs.Listed.go_on.Goals as goal

pub unreachable-requires : goal.unreachable-requires
unreachable-requires c =
    let can = c.requires in
    c.in_default.not-InHand can.state can.left (kept_in_hand c.args.self.now.stage can.state can.left can.at)

pub advance-requires-clause-ready : goal.advance-requires-clause-ready
advance-requires-clause-ready c = (hand_fits c.args.program.now c.args.here.now c.args.self.now.stage c.in-InHand.state c.in-InHand.left
    c.requires c.in-InHand.is).ready

pub advance-requires-clause-serves : goal.advance-requires-clause-serves
advance-requires-clause-serves c = (hand_fits c.args.program.now c.args.here.now c.args.self.now.stage c.in-InHand.state c.in-InHand.left
    c.requires c.in-InHand.is).serves

pub advance-requires-clause-in_run : goal.advance-requires-clause-in_run
advance-requires-clause-in_run c = (hand_fits c.args.program.now c.args.here.now c.args.self.now.stage c.in-InHand.state c.in-InHand.left
    c.requires c.in-InHand.is).runs

pub advance-requires-clause-held : goal.advance-requires-clause-held
advance-requires-clause-held c = (hand_fits c.args.program.now c.args.here.now c.args.self.now.stage c.in-InHand.state c.in-InHand.left
    c.requires c.in-InHand.is).held

-- ---- it stays in hand
pub returns-in-None-clause-goes : goal.returns-in-None-clause-goes
returns-in-None-clause-goes c =
    let fits = hand_fits c.args.program.now c.args.here.now c.args.self.now.stage c.in-InHand.state c.in-InHand.left c.requires c.in-InHand.is in
    goes_kept c.args.program.now c.args.here.now c.advance.new.here (kept_stage c.args.self.now.stage) _ c.in-InHand.state
    c.advance.new.state c.in-InHand.left c.advance.new.left fits.number (ap kept_stage c.in-InHand.is) refl c.in-None.ensures.advance

pub returns-in-None-clause-fits : goal.returns-in-None-clause-fits
returns-in-None-clause-fits c =
    let fits = hand_fits c.args.program.now c.args.here.now c.args.self.now.stage c.in-InHand.state c.in-InHand.left c.requires c.in-InHand.is in
    stays_fit c.args.program.now c.args.here.now c.advance.new.here c.in-InHand.state c.advance.new.state c.in-InHand.left
    c.advance.new.left None fits c.in-None.ensures.advance c.advance.ensures.number c.advance.ensures.keeps _ refl
    c.advance.ensures.ready c.advance.ensures.held

pub returns-in-None-clause-others : goal.returns-in-None-clause-others
returns-in-None-clause-others c =
    let fits = hand_fits c.args.program.now c.args.here.now c.args.self.now.stage c.in-InHand.state c.in-InHand.left c.requires c.in-InHand.is in
    step_leaves c.args.program.now c.args.here.now c.advance.new.here c.in-InHand.state c.advance.new.state c.in-InHand.left
    c.advance.new.left None fits c.in-None.ensures.advance c.advance.ensures.number c.advance.ensures.keeps

pub returns-in-None-clause-cpu : goal.returns-in-None-clause-cpu
returns-in-None-clause-cpu c =
    let fits = hand_fits c.args.program.now c.args.here.now c.args.self.now.stage c.in-InHand.state c.in-InHand.left c.requires c.in-InHand.is in
    cpu_stays c.args.program.now c.args.here.now c.advance.new.here c.in-InHand.state c.advance.new.state c.in-InHand.left
    c.advance.new.left None fits c.in-None.ensures.advance c.advance.ensures.number c.advance.ensures.keeps

-- ---- it ends
pub end-requires-clause-serves : goal.end-requires-clause-serves
end-requires-clause-serves c =
    let fits = hand_fits c.args.program.now c.args.here.now c.args.self.now.stage c.in-InHand.state c.in-InHand.left c.requires c.in-InHand.is in
    serves_now c.args.program.now c.args.here.now c.advance.new.here c.in-InHand.state c.advance.new.state c.in-InHand.left
    c.advance.new.left (Some c.in-Some.outcome) fits c.in-Some.ensures.advance c.advance.ensures.number c.advance.ensures.keeps

pub end-requires-clause-in_run : goal.end-requires-clause-in_run
end-requires-clause-in_run c =
    let fits = hand_fits c.args.program.now c.args.here.now c.args.self.now.stage c.in-InHand.state c.in-InHand.left c.requires c.in-InHand.is in
    runs_now c.args.program.now c.args.here.now c.advance.new.here c.in-InHand.state c.advance.new.state c.in-InHand.left c.advance.new.left
    (Some c.in-Some.outcome) fits c.in-Some.ensures.advance c.advance.ensures.number c.advance.ensures.keeps

pub returns-in-Some-clause-goes : goal.returns-in-Some-clause-goes
returns-in-Some-clause-goes c =
    let fits = hand_fits c.args.program.now c.args.here.now c.args.self.now.stage c.in-InHand.state c.in-InHand.left c.requires c.in-InHand.is in
    let number = number_now c.args.program.now c.args.here.now c.advance.new.here c.in-InHand.state c.advance.new.state c.in-InHand.left
    c.advance.new.left (Some c.in-Some.outcome) fits c.in-Some.ensures.advance c.advance.ensures.number c.advance.ensures.keeps in
    let served = serves_now c.args.program.now c.args.here.now c.advance.new.here c.in-InHand.state c.advance.new.state c.in-InHand.left
    c.advance.new.left (Some c.in-Some.outcome) fits c.in-Some.ensures.advance c.advance.ensures.number c.advance.ensures.keeps in
    goes_ended c.args.program.now c.args.here.now c.advance.new.here c.end.new.self (kept_stage c.args.self.now.stage)
    (Ended c.in-Some.outcome) c.in-InHand.state c.advance.new.state c.in-InHand.left c.advance.new.left c.in-Some.outcome fits.number
    (ap kept_stage c.in-InHand.is) refl
    c.in-Some.ensures.advance c.advance.new.state.number number served c.end.ensures.ended c.end.ensures.same.1

pub returns-in-Some-clause-fits : goal.returns-in-Some-clause-fits
returns-in-Some-clause-fits c =
    let fits = hand_fits c.args.program.now c.args.here.now c.args.self.now.stage c.in-InHand.state c.in-InHand.left c.requires c.in-InHand.is in (
      refl,
      off_now c.args.program.now c.args.here.now c.advance.new.here c.in-InHand.state c.advance.new.state c.in-InHand.left
          c.advance.new.left (Some c.in-Some.outcome) fits c.in-Some.ensures.advance c.advance.ensures.number c.advance.ensures.keeps
          c.end.new.self c.end.ensures.ended c.end.ensures.running c.end.ensures.held c.end.ensures.same.0,
    )

pub returns-in-Some-clause-others : goal.returns-in-Some-clause-others
returns-in-Some-clause-others c =
    let fits = hand_fits c.args.program.now c.args.here.now c.args.self.now.stage c.in-InHand.state c.in-InHand.left c.requires c.in-InHand.is in
    end_leaves c.args.program.now c.args.here.now c.advance.new.here c.in-InHand.state c.advance.new.state c.in-InHand.left
    c.advance.new.left (Some c.in-Some.outcome) fits c.in-Some.ensures.advance c.advance.ensures.number c.advance.ensures.keeps
    c.end.new.self c.end.ensures.ended c.end.ensures.running c.end.ensures.held c.end.ensures.same.0

pub returns-in-Some-clause-cpu : goal.returns-in-Some-clause-cpu
returns-in-Some-clause-cpu c =
    let fits = hand_fits c.args.program.now c.args.here.now c.args.self.now.stage c.in-InHand.state c.in-InHand.left c.requires c.in-InHand.is in
    cpu_last c.args.program.now c.args.here.now c.advance.new.here c.in-InHand.state c.advance.new.state c.in-InHand.left c.advance.new.left
    (Some c.in-Some.outcome) fits c.in-Some.ensures.advance c.advance.ensures.number c.advance.ensures.keeps c.end.new.self
    c.end.ensures.ended c.end.ensures.running c.end.ensures.held c.end.ensures.same.0
