use Rattle.bpf_cpu.proofs.SavedEnds.{outcomes_told}
use Rattle.bpf_cpu.proofs.laws.saved_tells_outcomes.Goals as goal

pub returns : goal.returns
returns c = outcomes_told
