use Rattle.std.proofs.Common.{rules}
use Rattle.bpf_shared.specs.Contents.{bytes_of_all}
use Rattle.bpf_packets.proofs.Kept.{no_rounds, round_more}
use Rattle.bpf_packets.proofs.turning.make_rounds.Goals as goal

pub loop-init : goal.loop-init
loop-init c = no_rounds c.args.machine.now (bytes_of_all c.args.packets.now)

pub loop-preserved : goal.loop-preserved
loop-preserved c =
    round_more c.args.machine.now c.loop.machine c.make_round.new.machine (bytes_of_all c.args.packets.now)
    (bytes_of_all c.loop.packets) (bytes_of_all c.make_round.new.packets) c.loop.invariant c.in_ok-worked.ensures.kept

pub returns-then-not-worked-clause-kept : goal.returns-then-not-worked-clause-kept
returns-then-not-worked-clause-kept c =
    round_more c.args.machine.now c.loop.machine c.make_round.new.machine (bytes_of_all c.args.packets.now)
    (bytes_of_all c.loop.packets) (bytes_of_all c.make_round.new.packets) c.loop.invariant c.in_ok-worked.ensures.kept

pub returns-then-not-worked-clause-ended : goal.returns-then-not-worked-clause-ended
returns-then-not-worked-clause-ended c =
    let r = c.loop.invariant c.requires.0 c.requires.1 in
    c.in_ok-worked.ensures.ended (search rules) (r.0, r.2)
