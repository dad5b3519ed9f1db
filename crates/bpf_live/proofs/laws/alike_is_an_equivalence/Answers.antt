use Rattle.bpf_live.proofs.AlikeRows.{like_itself}
use Rattle.bpf_live.proofs.AlikeStates.{states_are_alike_back, states_are_alike_again}
use Rattle.bpf_live.proofs.laws.alike_is_an_equivalence.Goals as goal

pub returns : goal.returns
returns c program table x y z = (like_itself program table x, states_are_alike_back program table x y, states_are_alike_again program table x y z)
