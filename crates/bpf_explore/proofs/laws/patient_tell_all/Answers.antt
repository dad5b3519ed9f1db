use Rattle.bpf_explore.proofs.OutcomeLaws.{patient_tell_all as law}
use Rattle.bpf_explore.proofs.laws.patient_tell_all.Goals as goal

pub returns : goal.returns
returns c = law
