use Rattle.bpf_expand.specs.Private.Home.{CountUp}
use Rattle.bpf_buffer_expand.proofs.jobs.count_up.Given as goal

abbrev pub invariant-loop-job : goal.invariant-loop-job
invariant-loop-job l = CountUp l.numbers.items l.job
