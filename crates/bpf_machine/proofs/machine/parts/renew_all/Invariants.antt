use Rattle.bpf_machine.proofs.FillLaws.{RenewedSoFar}
use Rattle.bpf_machine.proofs.machine.parts.renew_all.Given as goal

abbrev pub invariant-loop-cpu : goal.invariant-loop-cpu
invariant-loop-cpu l = RenewedSoFar l.parts l.numbers l.cpus l.cpu l.lanes.items l.spares.items
