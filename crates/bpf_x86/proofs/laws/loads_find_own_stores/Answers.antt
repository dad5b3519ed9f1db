use Rattle.bpf_x86.proofs.Forwarding.{loads_find_own_stores as law}
use Rattle.bpf_x86.proofs.laws.loads_find_own_stores.Goals as goal

pub returns : goal.returns
returns c = law
