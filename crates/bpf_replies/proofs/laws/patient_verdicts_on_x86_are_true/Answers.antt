use Rattle.bpf_replies.proofs.CheckedPatientlyOnX86.{patient_verdicts_on_x86_true}
use Rattle.bpf_replies.proofs.laws.patient_verdicts_on_x86_are_true.Goals as goal

pub returns : goal.returns
returns c = patient_verdicts_on_x86_true
