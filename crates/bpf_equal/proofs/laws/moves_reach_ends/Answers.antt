use Rattle.bpf_equal.proofs.Ending.{moves_reach_ends as law}
use Rattle.bpf_equal.proofs.laws.moves_reach_ends.Goals as goal

pub returns : goal.returns
returns c = law
