use Rattle.bpf_buffer_expand.proofs.Reporting.{lines_cover}
use Rattle.bpf_buffer_expand.proofs.laws.lines_cover_x86.Goals as goal

pub returns : goal.returns
returns c = lines_cover c.saved_alike_look_alike.ensures c.alike_stand_alike.ensures c.states_cover_x86.ensures c.patient_states_cover_x86.ensures
