use Rattle.bpf_reorderings.proofs.Sequential.{outcomes_x86s}
use Rattle.bpf_reorderings.proofs.laws.outcomes_are_x86s.Goals as goal

pub returns : goal.returns
returns c = outcomes_x86s c.orders_are_x86s.ensures
