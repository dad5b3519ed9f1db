use Rattle.std.proofs.Common.{◌≡◌, ℕ, ◌≤◌, ◌<◌, ◌-◌, Some, length}
use Rattle.std.specs.Prelude.{slice_get}
use Rattle.bpf_machine.specs.declared.machine.lane.Listed.{Listed}
use Rattle.bpf_machine.proofs.machine.lane.first_job.Given as goal

abbrev pub invariant-loop-job : goal.invariant-loop-job
invariant-loop-job l = record {
  above : l.«from» ≤ l.job;
  within : l.job ≤ length l.jobs;
  none : (k : ℕ) (x : Listed) → l.«from» ≤ k → k < l.job → slice_get l.jobs k ≡ Some x → x.cpu ≡ l.cpu → ⊥;
}

abbrev pub decreases-loop-job : goal.decreases-loop-job
decreases-loop-job l = length l.jobs - l.job
