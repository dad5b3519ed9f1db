use Rattle.bpf_check.proofs.SingleRuns.{judged}
use Rattle.bpf_check.proofs.laws.runs_are_judged.Goals as goal

pub returns : goal.returns
returns c = judged
