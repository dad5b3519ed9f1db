use Rattle.bpf_helpers.proofs.Determined.{calls_are_determined as law}
use Rattle.bpf_helpers.proofs.laws.calls_are_determined.Goals as goal

pub returns : goal.returns
returns c = law
