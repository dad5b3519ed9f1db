use Rattle.std.proofs.Common.{◌<◌, ℕ}
use Rattle.bpf_machine.specs.Parts.{chosen}
use Rattle.bpf_equal.specs.Private.Finding.{IsFoundAt}
use Rattle.bpf_equal.proofs.finding.are_found.Given as goal

abbrev pub invariant-loop-place : goal.invariant-loop-place
invariant-loop-place l = (j : ℕ) → j < l.place → IsFoundAt l.shape l.programs (chosen l.parts l.numbers) l.peers j
