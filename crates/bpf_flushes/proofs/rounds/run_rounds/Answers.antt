use Rattle.std.proofs.Common.{refl}
use Rattle.bpf_flushes.proofs.Rounding.{not_begun, round_more, last_round}
use Rattle.bpf_flushes.proofs.rounds.run_rounds.Goals as goal

pub loop-machine-init : goal.loop-machine-init
loop-machine-init c = not_begun c.args.machine.now

pub make_round-requires : goal.make_round-requires
make_round-requires c = let r = c.loop-machine.invariant c.requires.0 c.requires.1 in (r.0, r.1)

pub loop-machine-preserved : goal.loop-machine-preserved
loop-machine-preserved c = round_more c.args.machine.now c.loop-machine.machine c.make_round.new.machine c.loop-machine.invariant
    (c.loop-machine-test.ensures.open refl) c.in_ok-make_round.ensures.makes

pub returns : goal.returns
returns c = last_round c.args.machine.now c.loop-machine.machine c.loop-machine.invariant (c.loop-machine-test.ensures.ended refl)
