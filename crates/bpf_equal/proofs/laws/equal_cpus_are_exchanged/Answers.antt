use Rattle.bpf_equal.proofs.Exchanging.{equal_cpus_are_exchanged as law}
use Rattle.bpf_equal.proofs.laws.equal_cpus_are_exchanged.Goals as goal

pub returns : goal.returns
returns c = law
