use Rattle.std.proofs.Common.{refl}
use Rattle.bpf_machine.proofs.RoundLaws.{no_rounds, next_rounds, to_end}
use Rattle.bpf_machine.proofs.machine.Machine.rounds.Goals as goal

pub loop-init : goal.loop-init
loop-init c = no_rounds c.args.self.now

pub make_rounds-requires : goal.make_rounds-requires
make_rounds-requires c = let r = c.loop.invariant c.requires.0 c.requires.1 in (r.0, r.2)

pub loop-preserved : goal.loop-preserved
loop-preserved c = next_rounds c.args.self.now c.loop.self c.make_rounds.new.self c.loop.invariant c.loop-test.ensures.runs

pub returns-clause-runs : goal.returns-clause-runs
returns-clause-runs c =
    to_end c.args.self.now c.make_rounds.new.self (next_rounds c.args.self.now c.loop.self c.make_rounds.new.self c.loop.invariant
    c.loop-test.ensures.runs) (c.loop-test.ensures.ended refl)
