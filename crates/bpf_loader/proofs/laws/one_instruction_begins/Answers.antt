use Rattle.bpf_loader.proofs.DeterminedPlaces.{one_instruction_begins as law}
use Rattle.bpf_loader.proofs.laws.one_instruction_begins.Goals as goal

pub returns : goal.returns
returns c = law
