-- The CPUs of jobs that wait are those that the jobs were given.
use Rattle.std.proofs.Common.{◌≡◌, ℕ, List, [], ◌∷◌, map, refl, ap}
use Rattle.bpf_cpu.specs.declared.job.Job.{Job}
use Rattle.bpf_cpu.specs.Task.{waiting}
use Rattle.bpf_replies.specs.Comments.{cpus_of}

pub cpus_waiting : (jobs : List Job) → cpus_of (map waiting jobs) ≡ map (λ job. job.cpu) jobs
cpus_waiting [] = refl
cpus_waiting (job ∷ jobs) = ap (λ (cpus : List ℕ). job.cpu ∷ cpus) (cpus_waiting jobs)
