use Rattle.bpf_check.proofs.Verdicts.{faults_true}
use Rattle.bpf_check.proofs.laws.faults_are_true.Goals as goal

pub returns : goal.returns
returns c = faults_true
