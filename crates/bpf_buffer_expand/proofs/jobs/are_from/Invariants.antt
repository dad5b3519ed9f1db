use Rattle.std.proofs.Common.{◌≡◌, ◌<◌, ℕ, Some}
use Rattle.std.specs.Prelude.{slice_get}
use Rattle.bpf_cpu.specs.Task.{Task}
use Rattle.bpf_machine.specs.Saved.{ComesFrom}
use Rattle.bpf_buffering.specs.Jobs.{tasks_of}
use Rattle.bpf_buffer_expand.proofs.jobs.are_from.Given as goal

abbrev pub invariant-loop-job : goal.invariant-loop-job
invariant-loop-job l = (j : ℕ) (one task : Task) → j < l.job → slice_get l.first j ≡ Some one → slice_get (tasks_of l.jobs) j ≡ Some task
    → ComesFrom one task
