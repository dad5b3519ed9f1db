use Rattle.bpf_debug.proofs.Spelled.{steps_spell_schedules as law}
use Rattle.bpf_debug.proofs.laws.steps_spell_schedules.Goals as goal

pub returns : goal.returns
returns c = law
