use Rattle.std.proofs.Common.{ℕ, ◌<◌}
use Rattle.bpf_machine.specs.Parts.{chosen_at}
use Rattle.bpf_machine.specs.Private.Standing.{FitsAlone}
use Rattle.bpf_machine.proofs.machine.parts.fitting.all_fit.Given as goal

abbrev pub invariant-loop-job : goal.invariant-loop-job
invariant-loop-job l = (k : ℕ) → k < l.job → FitsAlone l.store l.programs (chosen_at l.parts l.numbers k)
