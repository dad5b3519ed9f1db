use Rattle.std.proofs.Common.{refl}
use Rattle.bpf_machine.specs.declared.machine.ahead.Headway.TheVariants.{Idle, Turns}
use Rattle.bpf_machine.proofs.QuietLaws.{ran_runs}
use Rattle.bpf_machine.proofs.ComingFrom.{ahead_same}
use Rattle.bpf_machine.proofs.OthersLaws.{ahead_others, others_twice}
use Rattle.bpf_machine.proofs.machine.Machine.turn_ahead.Goals as goal

pub returns-in-Turns-clause-runs : goal.returns-in-Turns-clause-runs
returns-in-Turns-clause-runs c =
    ran_runs c.args.self.now c.turn.new.self c.run_ahead.new.self c.args.cpu c.turn.result (Turns c.in-Turns.turns) c.turn.ensures.turn c.in-Turns.ensures

pub returns-in-Idle-clause-runs : goal.returns-in-Idle-clause-runs
returns-in-Idle-clause-runs c =
    ran_runs c.args.self.now c.turn.new.self c.run_ahead.new.self c.args.cpu c.turn.result Idle c.turn.ensures.turn c.in-Idle.ensures

pub returns-in-Turns-clause-ahead : goal.returns-in-Turns-clause-ahead
returns-in-Turns-clause-ahead c = (c.turn.result, c.turn.new.self, Turns c.in-Turns.turns, c.turn.ensures.turn, c.in-Turns.ensures, refl)

pub returns-in-Idle-clause-ahead : goal.returns-in-Idle-clause-ahead
returns-in-Idle-clause-ahead c = (c.turn.result, c.turn.new.self, Idle, c.turn.ensures.turn, c.in-Idle.ensures, refl)

pub returns-in-Turns-clause-jobs : goal.returns-in-Turns-clause-jobs
returns-in-Turns-clause-jobs c = λ first come. ahead_same c.turn.new.self c.run_ahead.new.self c.args.cpu (Turns c.in-Turns.turns)
    c.in-Turns.ensures first (c.turn.ensures.jobs first come)

pub returns-in-Idle-clause-jobs : goal.returns-in-Idle-clause-jobs
returns-in-Idle-clause-jobs c = λ first come. ahead_same c.turn.new.self c.run_ahead.new.self c.args.cpu Idle c.in-Idle.ensures first
    (c.turn.ensures.jobs first come)

pub returns-in-Turns-clause-others : goal.returns-in-Turns-clause-others
returns-in-Turns-clause-others c = others_twice c.args.self.now.jobs c.turn.new.self.jobs c.run_ahead.new.self.jobs c.args.cpu
    c.turn.ensures.others (ahead_others c.turn.new.self c.run_ahead.new.self c.args.cpu (Turns c.in-Turns.turns) c.in-Turns.ensures)

pub returns-in-Idle-clause-others : goal.returns-in-Idle-clause-others
returns-in-Idle-clause-others c = others_twice c.args.self.now.jobs c.turn.new.self.jobs c.run_ahead.new.self.jobs c.args.cpu
    c.turn.ensures.others (ahead_others c.turn.new.self c.run_ahead.new.self c.args.cpu Idle c.in-Idle.ensures)
