use Rattle.std.proofs.Common.{ℕ, ◌<◌, length}
use Rattle.bpf_machine.specs.Parts.{chosen_at}
use Rattle.bpf_machine.specs.Private.Standing.{Follows}
use Rattle.bpf_machine.proofs.machine.parts.fitting.are_in_order.Given as goal

abbrev pub invariant-loop-first : goal.invariant-loop-first
invariant-loop-first l = (j k : ℕ) → j < l.first → j < k → k < length l.numbers → Follows (chosen_at l.parts l.numbers j) (chosen_at l.parts l.numbers k)
