use Rattle.bpf_shared.proofs.Lawful.{values_stay as law}
use Rattle.bpf_shared.proofs.laws.values_stay.Goals as goal

pub returns : goal.returns
returns c = law
