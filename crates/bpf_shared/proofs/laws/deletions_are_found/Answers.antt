use Rattle.bpf_shared.proofs.Lasting.{deletions_are_found as law}
use Rattle.bpf_shared.proofs.laws.deletions_are_found.Goals as goal

pub returns : goal.returns
returns c = law
