use Rattle.bpf_equal.proofs.Chains.{permuted_is_an_equivalence as law}
use Rattle.bpf_equal.proofs.laws.permuted_is_an_equivalence.Goals as goal

pub returns : goal.returns
returns c = law
