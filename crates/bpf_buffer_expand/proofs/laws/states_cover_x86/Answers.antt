use Rattle.bpf_buffer_expand.proofs.Covering.{states_cover}
use Rattle.bpf_buffer_expand.proofs.laws.states_cover_x86.Goals as goal

pub returns : goal.returns
returns c = states_cover c.saved_alike_look_alike.ensures c.alike_stand_alike.ensures c.ahead_sets_cover_x86.ensures
