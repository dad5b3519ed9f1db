use Rattle.bpf_patience.proofs.Hanging.{x86s_can_end as law}
use Rattle.bpf_patience.proofs.laws.x86s_can_end.Goals as goal

pub returns : goal.returns
returns c = law c.alike_is_an_equivalence.ensures c.steps_are_alike.ensures
