use Rattle.std.proofs.Common.{◌≡◌, length}
use Rattle.std.specs.Prelude.{map, take}
use Rattle.bpf_cpu.specs.declared.job.Job.{Job}
use Rattle.bpf_faults.specs.Evidence.{sizes_of}
use Rattle.bpf_faults.proofs.watch.all_sizes.Given as goal

abbrev pub invariant-loop-job : goal.invariant-loop-job
invariant-loop-job l = l.sizes.items ≡ map (λ (job : Job). sizes_of job.input) (take l.job-index l.jobs)
