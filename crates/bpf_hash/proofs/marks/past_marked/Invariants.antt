use Rattle.std.proofs.Common.{◌≡◌, ℕ, ◌<◌, ◌≤◌, ◌-◌, true, false, length, slice_index_or}
use Rattle.bpf_hash.proofs.marks.past_marked.Given as goal

abbrev pub invariant-loop-first : goal.invariant-loop-first
invariant-loop-first l = record {
  further : l.from ≤ l.first;
  marked : (i : ℕ) → l.from ≤ i → i < l.first → slice_index_or l.marks i false ≡ true;
}

abbrev pub decreases-loop-first : goal.decreases-loop-first
decreases-loop-first l = length l.marks - l.first

abbrev pub invariant-loop-place : goal.invariant-loop-place
invariant-loop-place l = record {
  further : l.from ≤ l.place;
  marked : (i : ℕ) → l.from ≤ i → i < l.place → slice_index_or l.marks i false ≡ true;
}
