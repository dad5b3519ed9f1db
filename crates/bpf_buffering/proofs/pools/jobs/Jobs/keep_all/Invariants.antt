use Rattle.bpf_buffering.proofs.Pooling.{KeptSoFar}
use Rattle.bpf_buffering.proofs.pools.jobs.Jobs.keep_all.Given as goal

abbrev pub invariant-loop-job : goal.invariant-loop-job
invariant-loop-job l = KeptSoFar l.fn.self l.jobs l.job-index l.self l.numbers.items
