use Rattle.bpf_machine.proofs.RoundLaws.{SoFar}
use Rattle.bpf_machine.proofs.machine.Machine.make_round.Given as goal

abbrev pub invariant-loop-cpu : goal.invariant-loop-cpu
invariant-loop-cpu l = SoFar l.fn.self l.cpu l.worked l.self
