use Rattle.bpf_explore.proofs.TellLaws.{HaveEndedBelow}
use Rattle.bpf_explore.proofs.dives.have_ended.Given as goal

abbrev pub invariant-loop-job : goal.invariant-loop-job
invariant-loop-job l = HaveEndedBelow l.machine.jobs l.job
