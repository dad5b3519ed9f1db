use Rattle.bpf_loader.proofs.DeterminedRefusal.{first_is_determined as law}
use Rattle.bpf_loader.proofs.laws.first_is_determined.Goals as goal

pub returns : goal.returns
returns c = law
