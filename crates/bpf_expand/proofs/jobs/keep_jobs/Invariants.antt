use Rattle.std.proofs.Common.{◌≡◌, take}
use Rattle.bpf_expand.proofs.jobs.keep_jobs.Given as goal

abbrev pub invariant-loop-job : goal.invariant-loop-job
invariant-loop-job l = l.jobs.items ≡ take l.job l.machine.jobs
