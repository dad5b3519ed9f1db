-- Stores that are the same but for places of CPUs.
use Rattle.bpf_shared.specs.Store.{Plain}
use Rattle.bpf_equal.specs.Permutations.{Permutation}

-- each CPU is in a run, holds values and has them kept where the one that goes there is or does
abbrev pub store_permuted : Permutation → Plain → Plain
store_permuted cpus s = record s {
  running = λ c. s.running (cpus.from c);
  held = λ c. s.held (cpus.from c);
  kept = λ c. s.kept (cpus.from c);
}
