use Rattle.bpf_machine.proofs.StageLemmas.{stages_told}
use Rattle.bpf_machine.proofs.laws.saved_tells_stages.Goals as goal

pub returns : goal.returns
returns c = stages_told
