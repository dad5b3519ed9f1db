use Rattle.bpf_agreement.proofs.Printing.{calm_workers_print_outcomes as law}
use Rattle.bpf_agreement.proofs.laws.calm_workers_print_outcomes.Goals as goal

pub returns : goal.returns
returns c = law c.calm_histories_are_schedules.ensures
