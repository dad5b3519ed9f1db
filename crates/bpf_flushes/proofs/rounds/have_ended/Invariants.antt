use Rattle.bpf_flushes.proofs.Rounding.{EndedBelow}
use Rattle.bpf_flushes.proofs.rounds.have_ended.Given as goal

abbrev pub invariant-loop-job : goal.invariant-loop-job
invariant-loop-job l = EndedBelow l.machine.machine.jobs l.job
