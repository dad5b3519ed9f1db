use Rattle.bpf_check.proofs.Verdicts.{patient_faults_true}
use Rattle.bpf_check.proofs.laws.patient_faults_are_true.Goals as goal

pub returns : goal.returns
returns c = patient_faults_true
