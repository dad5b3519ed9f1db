use Rattle.bpf_equal.proofs.Back.{partners_end_alike as law}
use Rattle.bpf_equal.proofs.laws.partners_end_alike.Goals as goal

pub returns : goal.returns
returns c = law
