use Rattle.bpf_check.proofs.Verdicts.{patient_verdicts_true}
use Rattle.bpf_check.proofs.laws.patient_verdicts_are_true.Goals as goal

pub returns : goal.returns
returns c = patient_verdicts_true
