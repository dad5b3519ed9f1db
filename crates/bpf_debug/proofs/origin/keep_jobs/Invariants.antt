use Rattle.bpf_debug.proofs.OriginLaws.{Kept}
use Rattle.bpf_debug.proofs.origin.keep_jobs.Given as goal

abbrev pub invariant-loop-job : goal.invariant-loop-job
invariant-loop-job l = Kept l.machine.jobs l.jobs.items l.numbers.items l.job
