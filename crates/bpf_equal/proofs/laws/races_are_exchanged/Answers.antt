use Rattle.bpf_equal.proofs.Racing.{races_are_exchanged as law}
use Rattle.bpf_equal.proofs.laws.races_are_exchanged.Goals as goal

pub returns : goal.returns
returns c = law
