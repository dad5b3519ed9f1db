use Rattle.bpf_pairs.proofs.Filling.{puts_leave_one_store as law}
use Rattle.bpf_pairs.proofs.laws.puts_leave_one_store.Goals as goal

pub returns : goal.returns
returns c = law
