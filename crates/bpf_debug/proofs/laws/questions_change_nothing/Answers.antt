use Rattle.bpf_debug.proofs.Questions.{questions_change_nothing as law}
use Rattle.bpf_debug.proofs.laws.questions_change_nothing.Goals as goal

pub returns : goal.returns
returns c = law
