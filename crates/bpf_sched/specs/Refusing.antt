-- Why no job is begun, by the store's number of CPUs, the number of workers and the jobs.
use Rattle.std.specs.Prelude.{◌≡◌, ℕ, ◌<◌, ◌≤◌, List, Some, All, slice_get}
use Rattle.bpf_cpu.specs.declared.job.Job.{Job}
use Rattle.bpf_sched.specs.declared.refusal.SchedError.{SchedError}
use Rattle.bpf_sched.specs.declared.refusal.SchedError.TheVariants.{NoWorkers, TooManyWorkers, NoSuchCpu, OutOfMemory}

-- 1 to 16
pub record AreWorkers (workers : ℕ) : Type 0 where
  pub some : 0 < workers
  pub few : workers ≤ 16

-- each job's CPU is one of n
abbrev pub AreHere : ℕ → List Job → Type 0
AreHere cpus jobs = All (λ job. job.cpu < cpus) jobs

-- some job's CPU isn't
abbrev pub HasOutside : ℕ → List Job → Type 0
HasOutside cpus jobs = (job : Job) × (j : ℕ) × (slice_get jobs j ≡ Some job) × (cpus ≤ job.cpu)

-- the first refusal that applies
abbrev pub IsFirstSchedError : ℕ → ℕ → List Job → SchedError → Type 0
IsFirstSchedError cpus workers jobs NoWorkers = workers ≡ 0
IsFirstSchedError cpus workers jobs TooManyWorkers = 16 < workers
IsFirstSchedError cpus workers jobs NoSuchCpu = AreWorkers workers × HasOutside cpus jobs
IsFirstSchedError cpus workers jobs OutOfMemory = AreWorkers workers × AreHere cpus jobs
