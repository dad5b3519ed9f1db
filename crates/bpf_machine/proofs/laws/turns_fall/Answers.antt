use Rattle.bpf_machine.proofs.FallLaws.{turns_fall as law}
use Rattle.bpf_machine.proofs.laws.turns_fall.Goals as goal

pub returns : goal.returns
returns c = law
