use Rattle.std.proofs.Common.{◌≡◌, take}
use Rattle.bpf_buffering.specs.Jobs.{tasks_of}
use Rattle.bpf_buffer_expand.proofs.jobs.keep_jobs.Given as goal

abbrev pub invariant-loop-job : goal.invariant-loop-job
invariant-loop-job l = l.kept.items ≡ tasks_of (take l.job-index l.jobs)
