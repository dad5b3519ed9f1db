use Rattle.bpf_hash.proofs.SavedNormal.{one_reading}
use Rattle.bpf_hash.proofs.laws.readings_are_determined.Goals as goal

pub returns : goal.returns
returns c = one_reading
