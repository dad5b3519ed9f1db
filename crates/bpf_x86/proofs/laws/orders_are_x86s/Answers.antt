use Rattle.bpf_x86.proofs.OrderLaws.{orders_are_x86s as law}
use Rattle.bpf_x86.proofs.laws.orders_are_x86s.Goals as goal

pub returns : goal.returns
returns c = law
