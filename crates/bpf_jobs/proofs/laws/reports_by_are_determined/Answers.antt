use Rattle.bpf_jobs.proofs.OneReport.{reports_by_are_determined as law}
use Rattle.bpf_jobs.proofs.laws.reports_by_are_determined.Goals as goal

pub returns : goal.returns
returns c = law c.runs_by_are_determined.ensures
