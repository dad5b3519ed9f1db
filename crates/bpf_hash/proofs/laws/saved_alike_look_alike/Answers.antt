use Rattle.bpf_hash.proofs.SavedAlike.{saved_alike_look_alike as law}
use Rattle.bpf_hash.proofs.laws.saved_alike_look_alike.Goals as goal

pub returns : goal.returns
returns c = law
