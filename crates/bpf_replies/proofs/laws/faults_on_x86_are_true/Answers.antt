use Rattle.bpf_replies.proofs.CheckedOnX86.{faults_on_x86_true}
use Rattle.bpf_replies.proofs.laws.faults_on_x86_are_true.Goals as goal

pub returns : goal.returns
returns c = faults_on_x86_true
