use Rattle.bpf_buffer_events.proofs.OneHistory.{histories_are_determined}
use Rattle.bpf_buffer_events.proofs.laws.histories_with_buffers_are_determined.Goals as goal

pub returns : goal.returns
returns c = histories_are_determined c.writes_are_determined.ensures c.one_instruction_begins.ensures c.calls_have_one_reply.ensures
