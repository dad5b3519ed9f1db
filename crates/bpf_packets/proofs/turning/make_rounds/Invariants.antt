use Rattle.bpf_shared.specs.Contents.{bytes_of_all}
use Rattle.bpf_packets.specs.Private.{AreKept, SomeRounds}
use Rattle.bpf_packets.proofs.turning.make_rounds.Given as goal

abbrev pub invariant-loop : goal.invariant-loop
invariant-loop l = AreKept SomeRounds l.fn.machine (bytes_of_all l.fn.packets) l.machine (bytes_of_all l.packets)
