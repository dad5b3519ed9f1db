use Rattle.bpf_events.proofs.Histories.{histories_are_determined as law}
use Rattle.bpf_events.proofs.laws.histories_are_determined.Goals as goal

pub returns : goal.returns
returns c = law c.happenings_are_determined.ensures c.happenings_are_of_runs.ensures c.reports_by_are_determined.ensures
