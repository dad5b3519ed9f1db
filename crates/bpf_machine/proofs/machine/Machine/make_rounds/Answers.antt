use Rattle.std.proofs.Common.{arith}
use Rattle.bpf_machine.proofs.RoundLaws.{one_round, next_rounds}
use Rattle.bpf_machine.proofs.machine.Machine.make_rounds.Goals as goal

pub returns-in-Nobody-clause-runs : goal.returns-in-Nobody-clause-runs
returns-in-Nobody-clause-runs c = one_round c.args.self.now c.make_round.new.self c.make_round.ensures.runs

pub finish-requires-clause-alone : goal.finish-requires-clause-alone
finish-requires-clause-alone c = c.make_round.ensures.alone c.in-One.cpu c.in-One.is

pub returns-in-InHand-clause-runs : goal.returns-in-InHand-clause-runs
returns-in-InHand-clause-runs c =
    next_rounds c.args.self.now c.make_round.new.self c.finish.new.self
    (one_round c.args.self.now c.make_round.new.self c.make_round.ensures.runs) c.finish.ensures.finishes

pub returns-in-InHand-clause-falls : goal.returns-in-InHand-clause-falls
returns-in-InHand-clause-falls c = λ e.
    let r = c.make_round.ensures.runs c.requires.0 c.requires.1 in
    let less = c.make_round.ensures.falls (λ none. cc (c.in-One.is, none)) in
    let more = c.finish.ensures.falls (r.0, r.2) in
    omega arith

pub returns-in_default : goal.returns-in_default
returns-in_default c = record {
  runs = one_round c.args.self.now c.make_round.new.self c.make_round.ensures.runs;
  falls = λ e. c.make_round.ensures.falls (λ none. cc (c.in-One.is, none));
  ended = λ e. absurd cc;
}

pub make_rounds_ahead-requires : goal.make_rounds_ahead-requires
make_rounds_ahead-requires c = let r = c.make_round.ensures.runs c.requires.0 c.requires.1 in (r.0, r.2)

pub returns-in-More-clause-runs : goal.returns-in-More-clause-runs
returns-in-More-clause-runs c =
    next_rounds c.args.self.now c.make_round.new.self c.make_rounds_ahead.new.self
    (one_round c.args.self.now c.make_round.new.self c.make_round.ensures.runs) c.make_rounds_ahead.ensures.runs

pub returns-in-More-clause-falls : goal.returns-in-More-clause-falls
returns-in-More-clause-falls c = λ e.
    let less = c.make_round.ensures.falls (λ none. cc (c.in-More.is, none)) in
    let more = c.make_rounds_ahead.ensures.falls in
    omega arith
