use Rattle.bpf_equal.proofs.Exchanging.{outcomes_are_exchanged as law}
use Rattle.bpf_equal.proofs.laws.outcomes_are_exchanged.Goals as goal

pub returns : goal.returns
returns c = law
