use Rattle.bpf_plain.proofs.SavedAlike.{saved_alike_look_alike as law}
use Rattle.bpf_plain.proofs.laws.saved_alike_look_alike.Goals as goal

pub returns : goal.returns
returns c = law
