use Rattle.bpf_agreement.proofs.Reached.{calm_histories_are_schedules as law}
use Rattle.bpf_agreement.proofs.laws.calm_histories_are_schedules.Goals as goal

pub returns : goal.returns
returns c = law c.writes_are_determined.ensures c.one_instruction_begins.ensures c.calls_have_one_reply.ensures c.legal_is_sound.ensures
