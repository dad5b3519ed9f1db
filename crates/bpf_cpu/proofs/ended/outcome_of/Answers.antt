use Rattle.bpf_mem.proofs.Fronts.{if_none}
use Rattle.bpf_cpu.proofs.SavedEnds.{other_none}
use Rattle.bpf_cpu.proofs.ended.outcome_of.Goals as goal

pub returns-in_err-fault-clause-none : goal.returns-in_err-fault-clause-none
returns-in_err-fault-clause-none c = if_none c.from_residual.result
    (other_none c.args.kind c.args.number c.if-kind-eq0.false c.if-kind-eq7.false c.in_err-fault.ensures.none)
