use Rattle.bpf_mem.proofs.Apart.{areas_are_apart as law}
use Rattle.bpf_mem.proofs.laws.areas_are_apart.Goals as goal

pub returns : goal.returns
returns c = law
