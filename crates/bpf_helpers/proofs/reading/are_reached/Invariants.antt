use Rattle.std.proofs.Common.{◌≡◌, ℕ, ◌+◌, ◌<◌, ◌⊎◌, true}
use Rattle.bpf_helpers.specs.Arrays.{IsInArray, array_start}
use Rattle.bpf_helpers.specs.Held.{reaches}
use Rattle.bpf_helpers.proofs.reading.are_reached.Given as goal

abbrev pub invariant-loop-k : goal.invariant-loop-k
invariant-loop-k g l = record {
  reached : (j : ℕ) → j < l.k → (reaches l.held (l.at + j) ≡ true) ⊎ IsInArray (g.S.Shared.shapes l.shared) (l.at + j) 1;
  low : (j : ℕ) → j < l.k → l.at + j < array_start 16;
}
