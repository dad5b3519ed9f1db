use Rattle.bpf_buffer_expand.proofs.Covering.{patient_states_cover}
use Rattle.bpf_buffer_expand.proofs.laws.patient_states_cover_x86.Goals as goal

pub returns : goal.returns
returns c = patient_states_cover c.saved_alike_look_alike.ensures c.alike_stand_alike.ensures c.patient_sets_cover_x86.ensures
