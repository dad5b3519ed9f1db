use Rattle.bpf_machine.proofs.HappeningLaws.{happenings_are_of_runs as law}
use Rattle.bpf_machine.proofs.laws.happenings_are_of_runs.Goals as goal

pub returns : goal.returns
returns c = law
