use Rattle.bpf_equal.proofs.Marking.{steps_are_marked as law}
use Rattle.bpf_equal.proofs.laws.steps_are_marked.Goals as goal

pub returns : goal.returns
returns c = law
