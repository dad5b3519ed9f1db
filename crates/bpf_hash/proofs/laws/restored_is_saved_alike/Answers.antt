use Rattle.bpf_hash.proofs.SavedNormal.{normal_saved}
use Rattle.bpf_hash.proofs.laws.restored_is_saved_alike.Goals as goal

pub returns : goal.returns
returns c = normal_saved
