use Rattle.bpf_sched.proofs.Refusing.{FirstAreHere}
use Rattle.bpf_sched.proofs.jobs.are_here.Given as goal

abbrev pub invariant-loop-job : goal.invariant-loop-job
invariant-loop-job l = FirstAreHere l.cpus l.jobs l.job-index
