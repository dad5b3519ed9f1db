use Rattle.std.proofs.Common.{◌≡◌, ℕ, ◌<◌, false}
use Rattle.bpf_machine.specs.Parts.{chosen_at}
use Rattle.bpf_machine.specs.Private.Parts.{in_hand}
use Rattle.bpf_machine.proofs.machine.parts.find_hand.Given as goal

abbrev pub invariant-loop-job : goal.invariant-loop-job
invariant-loop-job l = (k : ℕ) → k < l.job → (chosen_at l.parts l.numbers k).cpu ≡ l.cpu → in_hand (chosen_at l.parts l.numbers k).stage ≡ false
