use Rattle.bpf_plain.proofs.Alike.{normal_saved}
use Rattle.bpf_plain.proofs.laws.restored_is_saved_alike.Goals as goal

pub returns : goal.returns
returns c = normal_saved
