use Rattle.bpf_cpu.proofs.SavedStates.{cpus_told}
use Rattle.bpf_cpu.proofs.laws.saved_tells_states.Goals as goal

pub returns : goal.returns
returns c = cpus_told
