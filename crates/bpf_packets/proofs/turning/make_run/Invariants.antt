use Rattle.std.proofs.Common.{replicate}
use Rattle.bpf_shared.specs.Contents.{bytes_of_all}
use Rattle.bpf_packets.specs.Private.{AreKept, Turns}
use Rattle.bpf_packets.proofs.turning.make_run.Given as goal

abbrev pub invariant-loop : goal.invariant-loop
invariant-loop l = AreKept (Turns (replicate l.counter l.cpu)) l.fn.machine (bytes_of_all l.fn.packets) l.machine (bytes_of_all l.packets)
