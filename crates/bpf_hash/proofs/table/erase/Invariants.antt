use Rattle.std.proofs.Common.{◌≡◌, ◌≢◌, ℕ, ◌+◌, ◌*◌, ◌<◌, length, slice_index}
use Rattle.bpf_hash.proofs.table.erase.Given as goal

abbrev pub invariant-loop-element : goal.invariant-loop-element
invariant-loop-element l = record {
  count : length l.notes ≡ length l.initial.notes;
  here : (i : ℕ) → i < l.element → slice_index l.notes (i * l.cpus + l.cpu) ≡ 0;
  others : (i d : ℕ) → d < l.cpus → d ≢ l.cpu → slice_index l.notes (i * l.cpus + d) ≡ slice_index l.initial.notes (i * l.cpus + d);
}
