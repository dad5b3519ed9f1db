use Rattle.bpf_shared.proofs.Lawful.{updates_make_values as law}
use Rattle.bpf_shared.proofs.laws.updates_make_values.Goals as goal

pub returns : goal.returns
returns c = law
