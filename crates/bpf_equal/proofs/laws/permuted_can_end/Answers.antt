use Rattle.bpf_equal.proofs.Reaching.{permuted_can_end as law}
use Rattle.bpf_equal.proofs.laws.permuted_can_end.Goals as goal

pub returns : goal.returns
returns c = law c.alike_is_an_equivalence.ensures c.steps_are_alike.ensures c.one_state_is_alike.ensures
