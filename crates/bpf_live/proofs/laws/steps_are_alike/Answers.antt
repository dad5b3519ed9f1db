use Rattle.bpf_live.proofs.AlikeRows.{steps_are_alike as law}
use Rattle.bpf_live.proofs.laws.steps_are_alike.Goals as goal

pub returns : goal.returns
returns c = law
