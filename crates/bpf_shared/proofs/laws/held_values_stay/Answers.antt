use Rattle.bpf_shared.proofs.Lasting.{held_values_stay as law}
use Rattle.bpf_shared.proofs.laws.held_values_stay.Goals as goal

pub returns : goal.returns
returns c = law
