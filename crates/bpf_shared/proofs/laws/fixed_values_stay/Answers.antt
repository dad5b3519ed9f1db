use Rattle.bpf_shared.proofs.Lasting.{fixed_values_stay as law}
use Rattle.bpf_shared.proofs.laws.fixed_values_stay.Goals as goal

pub returns : goal.returns
returns c = law
