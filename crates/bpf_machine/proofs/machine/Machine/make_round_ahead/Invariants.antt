use Rattle.bpf_machine.proofs.AheadLaws.{RoundSoFar}
use Rattle.bpf_machine.proofs.machine.Machine.make_round_ahead.Given as goal

abbrev pub invariant-loop-cpu : goal.invariant-loop-cpu
invariant-loop-cpu l = RoundSoFar l.fn.self l.initial.headways l.cpu l.headways l.self
