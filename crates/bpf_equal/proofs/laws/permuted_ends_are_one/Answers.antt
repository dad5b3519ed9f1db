use Rattle.bpf_equal.proofs.Ending.{permuted_ends_are_one as law}
use Rattle.bpf_equal.proofs.laws.permuted_ends_are_one.Goals as goal

pub returns : goal.returns
returns c = law
