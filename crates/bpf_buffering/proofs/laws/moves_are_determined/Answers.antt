use Rattle.bpf_buffering.proofs.Determined.{moves_are_determined as law}
use Rattle.bpf_buffering.proofs.laws.moves_are_determined.Goals as goal

pub returns : goal.returns
returns c = law c.writes_are_determined.ensures c.one_instruction_begins.ensures c.calls_have_one_reply.ensures
