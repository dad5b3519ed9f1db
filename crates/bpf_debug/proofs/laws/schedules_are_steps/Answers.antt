use Rattle.bpf_debug.proofs.Spelled.{schedules_are_steps as law}
use Rattle.bpf_debug.proofs.laws.schedules_are_steps.Goals as goal

pub returns : goal.returns
returns c = law
