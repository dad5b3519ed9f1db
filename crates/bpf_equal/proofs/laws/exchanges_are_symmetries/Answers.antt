use Rattle.bpf_equal.proofs.Beyond.{exchanges_are_symmetries as law}
use Rattle.bpf_equal.proofs.laws.exchanges_are_symmetries.Goals as goal

pub returns : goal.returns
returns c = law
