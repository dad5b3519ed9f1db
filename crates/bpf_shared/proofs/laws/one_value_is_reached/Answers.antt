use Rattle.bpf_shared.proofs.Lawful.{one_value_is_reached as law}
use Rattle.bpf_shared.proofs.laws.one_value_is_reached.Goals as goal

pub returns : goal.returns
returns c = law
