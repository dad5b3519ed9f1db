use Rattle.bpf_check.proofs.Verdicts.{verdicts_true}
use Rattle.bpf_check.proofs.laws.verdicts_are_true.Goals as goal

pub returns : goal.returns
returns c = verdicts_true
