use Rattle.std.proofs.Common.{◌≡◌, ℕ, ◌<◌, false}
use Rattle.bpf_machine.specs.Parts.{chosen_at}
use Rattle.bpf_machine.specs.Private.Parts.{waits}
use Rattle.bpf_machine.proofs.machine.parts.find_waiting.Given as goal

abbrev pub invariant-loop-job : goal.invariant-loop-job
invariant-loop-job l = (k : ℕ) → k < l.job → (chosen_at l.parts l.numbers k).cpu ≡ l.cpu → waits (chosen_at l.parts l.numbers k).stage ≡ false
