use Rattle.bpf_machine.proofs.ComingFrom.{refilled_same}
use Rattle.bpf_expand.proofs.expander.fill.Goals as goal

pub returns-clause-jobs : goal.returns-clause-jobs
returns-clause-jobs c = refilled_same c.args.machine.now c.refill.new.self c.args.cpu c.refill.ensures.refills
