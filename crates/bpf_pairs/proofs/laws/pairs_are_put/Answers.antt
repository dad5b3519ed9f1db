use Rattle.bpf_pairs.proofs.Filling.{pairs_are_put as law}
use Rattle.bpf_pairs.proofs.laws.pairs_are_put.Goals as goal

pub returns : goal.returns
returns c = law
