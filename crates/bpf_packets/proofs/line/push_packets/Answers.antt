use Rattle.std.specs.Prelude.{string_bytes}
use Rattle.bpf_shared.specs.Contents.{bytes_of_all}
use Rattle.bpf_packets.proofs.Packets.{one_line_more}
use Rattle.bpf_packets.proofs.line.push_packets.Goals as goal

pub loop-job-preserved : goal.loop-job-preserved
loop-job-preserved c =
    one_line_more (string_bytes c.args.text.now) (string_bytes c.loop-job.text) (string_bytes c.push_left.new.text) c.loop-job.job c.args.machine.now.jobs
    (bytes_of_all c.args.packets.now) c.outcome.result c.packet_at.result.now c.outcome.ensures c.packet_at.ensures c.loop-job.invariant
    c.in_ok-push_left.ensures
