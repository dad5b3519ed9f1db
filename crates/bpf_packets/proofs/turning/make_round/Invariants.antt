use Rattle.bpf_shared.specs.Contents.{bytes_of_all}
use Rattle.bpf_machine.specs.Rounds.{below}
use Rattle.bpf_packets.specs.Private.{AreKept, Turns}
use Rattle.bpf_packets.proofs.Kept.{IdleSo}
use Rattle.bpf_packets.proofs.turning.make_round.Given as goal

abbrev pub invariant-loop-cpu : goal.invariant-loop-cpu
invariant-loop-cpu l = record {
  kept : AreKept (Turns (below l.cpu)) l.fn.machine (bytes_of_all l.fn.packets) l.machine (bytes_of_all l.packets);
  idle : IdleSo l.fn.machine l.cpu l.worked l.machine;
}
