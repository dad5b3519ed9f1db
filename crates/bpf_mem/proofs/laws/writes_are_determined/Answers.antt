use Rattle.bpf_mem.proofs.Determined.{writes_are_determined as law}
use Rattle.bpf_mem.proofs.laws.writes_are_determined.Goals as goal

pub returns : goal.returns
returns c = law
