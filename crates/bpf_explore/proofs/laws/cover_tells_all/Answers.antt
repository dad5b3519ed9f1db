use Rattle.bpf_explore.proofs.OutcomeLaws.{cover_tells_all as law}
use Rattle.bpf_explore.proofs.laws.cover_tells_all.Goals as goal

pub returns : goal.returns
returns c = law
