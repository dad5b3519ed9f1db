use Rattle.bpf_x86.proofs.Forwarding.{others_dont_see_stores as law}
use Rattle.bpf_x86.proofs.laws.others_dont_see_stores.Goals as goal

pub returns : goal.returns
returns c = law
