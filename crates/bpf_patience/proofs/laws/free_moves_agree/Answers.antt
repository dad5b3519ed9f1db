use Rattle.bpf_patience.proofs.Agreeing.{free_moves_agree as law}
use Rattle.bpf_patience.proofs.laws.free_moves_agree.Goals as goal

pub returns : goal.returns
returns c = law c.writes_are_determined.ensures c.one_instruction_begins.ensures c.calls_have_one_reply.ensures
