use Rattle.bpf_expand.proofs.Covering.{states_cover}
use Rattle.bpf_expand.proofs.laws.states_cover.Goals as goal

pub returns : goal.returns
returns c = states_cover c.saved_alike_look_alike.ensures c.alike_stand_alike.ensures c.closed_sets_cover.ensures
