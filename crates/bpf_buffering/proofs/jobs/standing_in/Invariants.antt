use Rattle.std.proofs.Common.{◌≡◌, ℕ, ◌<◌, false, Some}
use Rattle.std.specs.Prelude.{slice_get}
use Rattle.bpf_buffering.specs.declared.jobs.Listed.{Listed}
use Rattle.bpf_buffering.specs.Jobs.{held_by}
use Rattle.bpf_buffering.proofs.jobs.standing_in.Given as goal

abbrev pub invariant-loop-job : goal.invariant-loop-job
invariant-loop-job l = (k : ℕ) (y : Listed) → k < l.job → slice_get l.jobs k ≡ Some y → held_by l.cpu y ≡ false
