use Rattle.bpf_expand.proofs.Covering.{patient_states_cover}
use Rattle.bpf_expand.proofs.laws.patient_states_cover.Goals as goal

pub returns : goal.returns
returns c = patient_states_cover c.saved_alike_look_alike.ensures c.alike_stand_alike.ensures c.patient_sets_cover.ensures
