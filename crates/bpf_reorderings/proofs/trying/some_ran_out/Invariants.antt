use Rattle.bpf_explore.proofs.PatienceLaws.{NoneOutBelow}
use Rattle.bpf_reorderings.proofs.trying.some_ran_out.Given as goal

abbrev pub invariant-loop-job : goal.invariant-loop-job
invariant-loop-job l = NoneOutBelow l.machine.machine.jobs l.job
