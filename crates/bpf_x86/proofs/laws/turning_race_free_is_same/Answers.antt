use Rattle.bpf_x86.proofs.TurningLaws.{turning_race_free_is_same as law}
use Rattle.bpf_x86.proofs.laws.turning_race_free_is_same.Goals as goal

pub returns : goal.returns
returns c = law c.writes_are_determined.ensures c.one_instruction_begins.ensures c.calls_have_one_reply.ensures
