use Rattle.bpf_shared.specs.Contents.{bytes_of_all}
use Rattle.bpf_packets.proofs.Kept.{turn_kept}
use Rattle.bpf_packets.proofs.turning.make_turn.Goals as goal

pub returns-clause-kept : goal.returns-clause-kept
returns-clause-kept c =
    turn_kept c.args.cpu c.turn.result c.args.machine.now c.turn.new.self
    (bytes_of_all c.args.packets.now) (bytes_of_all c.keep_packet.new.packets) c.in_ok-keep_packet.ensures c.turn.ensures.turn
