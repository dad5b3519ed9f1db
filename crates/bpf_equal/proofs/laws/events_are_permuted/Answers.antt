use Rattle.bpf_equal.proofs.Events.{events_are_permuted as law}
use Rattle.bpf_equal.proofs.laws.events_are_permuted.Goals as goal

pub returns : goal.returns
returns c = law
