use Rattle.bpf_hash.proofs.Alike.{alike_stand_alike as law}
use Rattle.bpf_hash.proofs.laws.alike_stand_alike.Goals as goal

pub returns : goal.returns
returns c = law
