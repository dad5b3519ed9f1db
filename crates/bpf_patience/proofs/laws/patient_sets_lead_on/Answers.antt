use Rattle.bpf_patience.proofs.Leading.{patient_sets_lead_on as law}
use Rattle.bpf_patience.proofs.laws.patient_sets_lead_on.Goals as goal

pub returns : goal.returns
returns c = law c.alike_is_an_equivalence.ensures c.steps_are_alike.ensures c.writes_are_determined.ensures c.one_instruction_begins.ensures
    c.calls_have_one_reply.ensures
