use Rattle.bpf_live.proofs.AlikeOnce.{one_state_is_alike as law}
use Rattle.bpf_live.proofs.laws.one_state_is_alike.Goals as goal

pub returns : goal.returns
returns c = law c.one_instruction_begins.ensures
