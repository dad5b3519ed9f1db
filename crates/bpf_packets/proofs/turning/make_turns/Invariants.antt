use Rattle.std.proofs.Common.{take}
use Rattle.bpf_shared.specs.Contents.{bytes_of_all}
use Rattle.bpf_machine.specs.Schedule.{unrolled}
use Rattle.bpf_packets.specs.Private.{AreKept, Turns}
use Rattle.bpf_packets.proofs.turning.make_turns.Given as goal

abbrev pub invariant-loop-cpu : goal.invariant-loop-cpu
invariant-loop-cpu l = AreKept (Turns (unrolled (take l.cpu-index l.schedule))) l.fn.machine (bytes_of_all l.fn.packets) l.machine (bytes_of_all l.packets)
