use Rattle.bpf_packets.proofs.Determined.{determined as law}
use Rattle.bpf_packets.proofs.laws.reports_with_packets_are_determined.Goals as goal

pub returns : goal.returns
returns c = law c.writes_are_determined.ensures c.one_instruction_begins.ensures c.calls_have_one_reply.ensures c.reports_by_are_determined.ensures
