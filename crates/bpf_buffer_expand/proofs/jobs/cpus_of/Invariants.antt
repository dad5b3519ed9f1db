use Rattle.std.proofs.Common.{◌≡◌, map, take}
use Rattle.bpf_buffering.specs.Jobs.{tasks_of}
use Rattle.bpf_buffer_expand.proofs.jobs.cpus_of.Given as goal

abbrev pub invariant-loop-job : goal.invariant-loop-job
invariant-loop-job l = l.cpus.items ≡ map (λ task. task.cpu) (tasks_of (take l.job-index l.jobs))
