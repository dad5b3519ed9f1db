use Rattle.bpf_events.proofs.Histories.{histories_are_of_reports as law}
use Rattle.bpf_events.proofs.laws.histories_are_of_reports.Goals as goal

pub returns : goal.returns
returns c = law c.happenings_are_of_runs.ensures
