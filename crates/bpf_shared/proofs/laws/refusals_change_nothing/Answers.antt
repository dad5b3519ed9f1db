use Rattle.bpf_shared.proofs.Lawful.{refusals_change_nothing as law}
use Rattle.bpf_shared.proofs.laws.refusals_change_nothing.Goals as goal

pub returns : goal.returns
returns c = law
