use Rattle.std.proofs.Common.{◌≡◌, ℕ, ◌<◌, false, Some}
use Rattle.std.specs.Prelude.{slice_get}
use Rattle.bpf_buffering.specs.declared.jobs.Listed.{Listed}
use Rattle.bpf_buffering.specs.Jobs.{waits_for}
use Rattle.bpf_buffering.proofs.jobs.find_waiting.Given as goal

abbrev pub invariant-loop-job : goal.invariant-loop-job
invariant-loop-job l = (k : ℕ) (y : Listed) → k < l.job → slice_get l.jobs k ≡ Some y → waits_for l.cpu y ≡ false
