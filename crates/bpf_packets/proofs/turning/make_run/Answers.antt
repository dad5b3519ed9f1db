use Rattle.std.proofs.Common.{◌≡◌, ℕ, replicate, subst, arith}
use Rattle.bpf_shared.specs.Contents.{bytes_of_all}
use Rattle.bpf_packets.specs.Private.{AreKept, Turns}
use Rattle.bpf_packets.proofs.Kept.{kept_nothing, one_more, rest_idle}
use Rattle.bpf_packets.proofs.turning.make_run.Goals as goal

pub loop-init : goal.loop-init
loop-init c = kept_nothing c.args.machine.now (bytes_of_all c.args.packets.now)

pub loop-preserved : goal.loop-preserved
loop-preserved c =
    one_more c.loop.counter c.args.run.0 c.in_ok-make_turn.field-0 c.args.machine.now c.loop.machine c.make_turn.new.machine (bytes_of_all c.args.packets.now)
    (bytes_of_all c.loop.packets) (bytes_of_all c.make_turn.new.packets) c.loop.invariant c.in_ok-make_turn.ensures.kept

pub returns-after-loop : goal.returns-after-loop
returns-after-loop c =
    let all : c.loop.counter ≡ c.args.run.1 = omega arith in
    let given = bytes_of_all c.args.packets.now in
    subst (λ (n : ℕ). AreKept (Turns (replicate n c.args.run.0)) c.args.machine.now given c.loop.machine (bytes_of_all c.loop.packets)) all c.loop.invariant

pub returns-in-Idle : goal.returns-in-Idle
returns-in-Idle c =
    rest_idle c.loop.counter c.args.run.1 c.args.run.0 c.in_ok-make_turn.field-0 c.args.machine.now c.loop.machine c.make_turn.new.machine
    (bytes_of_all c.args.packets.now) (bytes_of_all c.loop.packets) (bytes_of_all c.make_turn.new.packets) (omega arith) c.in-Idle.is
    c.loop.invariant c.in_ok-make_turn.ensures.kept
