use Rattle.bpf_debug.proofs.OneScript.{recalls_change_nothing as law}
use Rattle.bpf_debug.proofs.laws.recalls_change_nothing.Goals as goal

pub returns : goal.returns
returns c = law c.writes_are_determined.ensures c.one_instruction_begins.ensures c.calls_have_one_reply.ensures
