use Rattle.bpf_equal.proofs.Beyond.{covered_lie_beyond as law}
use Rattle.bpf_equal.proofs.laws.covered_lie_beyond.Goals as goal

pub returns : goal.returns
returns c = law
