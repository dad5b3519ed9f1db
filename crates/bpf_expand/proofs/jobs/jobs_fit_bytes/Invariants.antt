use Rattle.std.proofs.Common.{◌≡◌, ◌<◌, ℕ, Some}
use Rattle.std.specs.Prelude.{slice_get}
use Rattle.bpf_cpu.specs.Task.{Task}
use Rattle.bpf_machine.specs.Saved.{FitsBytes}
use Rattle.bpf_expand.proofs.jobs.jobs_fit_bytes.Given as goal

abbrev pub invariant-loop-job : goal.invariant-loop-job
invariant-loop-job l = (j : ℕ) (task : Task) → j < l.job → slice_get l.machine.jobs j ≡ Some task → FitsBytes task.stage
