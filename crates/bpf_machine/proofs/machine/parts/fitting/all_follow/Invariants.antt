use Rattle.std.proofs.Common.{ℕ, ◌<◌}
use Rattle.bpf_machine.specs.Parts.{chosen_at}
use Rattle.bpf_machine.specs.Private.Standing.{Follows}
use Rattle.bpf_machine.proofs.machine.parts.fitting.all_follow.Given as goal

abbrev pub invariant-loop-job : goal.invariant-loop-job
invariant-loop-job l = (k : ℕ) → l.first < k → k < l.job → Follows (chosen_at l.parts l.numbers l.first) (chosen_at l.parts l.numbers k)
