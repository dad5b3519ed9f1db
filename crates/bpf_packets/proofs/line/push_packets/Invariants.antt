use Rattle.std.proofs.Common.{◌≡◌, ◌++◌}
use Rattle.std.specs.Prelude.{string_bytes}
use Rattle.bpf_shared.specs.Contents.{bytes_of_all}
use Rattle.bpf_packets.specs.Packets.{packet_lines}
use Rattle.bpf_packets.proofs.line.push_packets.Given as goal

abbrev pub invariant-loop-job : goal.invariant-loop-job
invariant-loop-job l = string_bytes l.text ≡ string_bytes l.fn.text ++ packet_lines l.job l.machine.jobs (bytes_of_all l.packets)
