use Rattle.bpf_run.proofs.FoundRaces.{true_races}
use Rattle.bpf_run.proofs.laws.found_races_are_true.Goals as goal

pub returns : goal.returns
returns c = true_races
