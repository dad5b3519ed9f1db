use Rattle.bpf_equal.proofs.Freely.{hung_are_exchanged as law}
use Rattle.bpf_equal.proofs.laws.hung_are_exchanged.Goals as goal

pub returns : goal.returns
returns c = law
