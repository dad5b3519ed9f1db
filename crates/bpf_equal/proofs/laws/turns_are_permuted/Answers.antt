use Rattle.bpf_equal.proofs.Turns.{turns_are_permuted as law}
use Rattle.bpf_equal.proofs.laws.turns_are_permuted.Goals as goal

pub returns : goal.returns
returns c = law
