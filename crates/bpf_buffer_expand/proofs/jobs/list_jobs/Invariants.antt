use Rattle.std.proofs.Common.{◌≡◌, take}
use Rattle.bpf_buffering.specs.Jobs.{tasks_of}
use Rattle.bpf_buffer_expand.proofs.jobs.list_jobs.Given as goal

abbrev pub invariant-loop-job : goal.invariant-loop-job
invariant-loop-job l = tasks_of l.jobs.items ≡ take l.job l.kept
