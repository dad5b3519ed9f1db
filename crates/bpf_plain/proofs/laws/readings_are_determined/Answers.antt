use Rattle.bpf_plain.proofs.Restoring.{one_reading}
use Rattle.bpf_plain.proofs.laws.readings_are_determined.Goals as goal

pub returns : goal.returns
returns c = one_reading
