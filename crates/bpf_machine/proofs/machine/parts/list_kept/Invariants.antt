use Rattle.std.proofs.Common.{◌≡◌, ℕ, ◌<◌, length}
use Rattle.bpf_machine.specs.Parts.{chosen_at}
use Rattle.bpf_machine.specs.Private.Parts.{entry_at, IsEntryOf}
use Rattle.bpf_machine.proofs.machine.parts.list_kept.Given as goal

abbrev pub invariant-loop-job : goal.invariant-loop-job
invariant-loop-job l = record {
  count : length l.jobs.items ≡ l.job;
  each : (k : ℕ) → k < l.job → IsEntryOf (chosen_at l.parts l.numbers k) (entry_at l.jobs.items k);
}
