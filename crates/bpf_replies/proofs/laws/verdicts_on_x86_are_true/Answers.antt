use Rattle.bpf_replies.proofs.CheckedOnX86.{verdicts_on_x86_true}
use Rattle.bpf_replies.proofs.laws.verdicts_on_x86_are_true.Goals as goal

pub returns : goal.returns
returns c = verdicts_on_x86_true
