use Rattle.bpf_equal.proofs.Beyond.{beyond_is_exchanged as law}
use Rattle.bpf_equal.proofs.laws.beyond_is_exchanged.Goals as goal

pub returns : goal.returns
returns c = law
