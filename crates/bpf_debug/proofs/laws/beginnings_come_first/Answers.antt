use Rattle.bpf_debug.proofs.Spelled.{beginnings_come_first as law}
use Rattle.bpf_debug.proofs.laws.beginnings_come_first.Goals as goal

pub returns : goal.returns
returns c = law
