use Rattle.bpf_agreement.proofs.Printing.{workers_print_outcomes as law}
use Rattle.bpf_agreement.proofs.laws.workers_print_outcomes.Goals as goal

pub returns : goal.returns
returns c = law c.histories_are_schedules.ensures
