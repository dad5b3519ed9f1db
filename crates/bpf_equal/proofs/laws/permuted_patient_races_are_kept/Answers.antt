use Rattle.bpf_equal.proofs.Racing.{permuted_patient_races_are_kept as law}
use Rattle.bpf_equal.proofs.laws.permuted_patient_races_are_kept.Goals as goal

pub returns : goal.returns
returns c = law c.alike_is_an_equivalence.ensures c.steps_are_alike.ensures c.one_state_is_alike.ensures c.writes_are_determined.ensures
    c.one_instruction_begins.ensures c.calls_have_one_reply.ensures
