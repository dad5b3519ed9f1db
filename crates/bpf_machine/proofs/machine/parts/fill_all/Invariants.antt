use Rattle.bpf_machine.proofs.FillLaws.{FilledSoFar}
use Rattle.bpf_machine.proofs.machine.parts.fill_all.Given as goal

abbrev pub invariant-loop-cpu : goal.invariant-loop-cpu
invariant-loop-cpu l = FilledSoFar l.parts l.numbers l.cpus l.cpu l.lanes.items
