use Rattle.bpf_flushes.proofs.Rounding.{SoFar}
use Rattle.bpf_flushes.proofs.rounds.make_round.Given as goal

abbrev pub invariant-loop-cpu : goal.invariant-loop-cpu
invariant-loop-cpu l = SoFar l.fn.machine l.cpu l.worked l.machine
