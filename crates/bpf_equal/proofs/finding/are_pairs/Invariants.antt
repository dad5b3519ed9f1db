use Rattle.std.proofs.Common.{◌≢◌, ◌<◌, ℕ}
use Rattle.bpf_machine.specs.Parts.{chosen}
use Rattle.bpf_equal.specs.Private.Finding.{IsPairAt}
use Rattle.bpf_equal.proofs.finding.are_pairs.Given as goal

abbrev pub invariant-loop-other : goal.invariant-loop-other
invariant-loop-other l = (k : ℕ) → k < l.other → l.place ≢ k → IsPairAt (chosen l.parts l.numbers) l.peers l.place k
