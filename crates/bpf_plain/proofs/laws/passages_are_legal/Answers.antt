use Rattle.bpf_plain.proofs.Lifting.{passages_are_legal as law}
use Rattle.bpf_plain.proofs.laws.passages_are_legal.Goals as goal

pub returns : goal.returns
returns c = law
