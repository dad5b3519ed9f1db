use Rattle.std.proofs.Common.{◌≡◌, ℕ, ◌+◌, ◌*◌, ◌<◌, ◌≤◌, length, slice_index}
use Rattle.bpf_plain.proofs.bytes.fill.Given as goal

-- the first copies begin with the first bytes, and from there on there are zeros
abbrev pub invariant-loop-copy : goal.invariant-loop-copy
invariant-loop-copy l = record {
  size : length l.bytes ≡ l.copies * l.stride;
  front : (k o : ℕ) → k < l.copy → o < l.stride → slice_index l.bytes (k * l.stride + o) ≡ slice_index l.first o;
  blank : (x : ℕ) → l.copy * l.stride ≤ x → slice_index l.bytes x ≡ 0;
}
