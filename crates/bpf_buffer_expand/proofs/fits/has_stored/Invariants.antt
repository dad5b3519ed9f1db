use Rattle.std.proofs.Common.{◌≡◌, ℕ, ◌<◌, Some}
use Rattle.std.specs.Prelude.{slice_get}
use Rattle.bpf_cpu.specs.Task.{Task}
use Rattle.bpf_buffering.specs.Jobs.{tasks_of}
use Rattle.bpf_buffer_expand.specs.Private.Fits.{HasMade}
use Rattle.bpf_buffer_expand.proofs.fits.has_stored.Given as goal

abbrev pub invariant-loop-job : goal.invariant-loop-job
invariant-loop-job l = (k : ℕ) (task : Task) → k < l.job → slice_get (tasks_of l.jobs) k ≡ Some task → HasMade l.shape task l.cpu l.buffer → ⊥
