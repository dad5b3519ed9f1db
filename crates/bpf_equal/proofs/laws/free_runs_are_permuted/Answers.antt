use Rattle.bpf_equal.proofs.Freely.{free_runs_are_permuted as law}
use Rattle.bpf_equal.proofs.laws.free_runs_are_permuted.Goals as goal

pub returns : goal.returns
returns c = law
