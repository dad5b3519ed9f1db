use Rattle.bpf_x86.proofs.Forwarding.{newest_stores_are_seen as law}
use Rattle.bpf_x86.proofs.laws.newest_stores_are_seen.Goals as goal

pub returns : goal.returns
returns c = law
