use Rattle.std.proofs.Common.{◌≡◌, ◌++◌, ◌<◌, ◌≤◌, ℕ, List, length, drop, slice_index}
use Rattle.bpf_base.specs.Bytes.{low_bytes}
use Rattle.bpf_plain.specs.Private.Contents.{IsPadded}
use Rattle.bpf_plain.specs.Private.Changes.{changes, changes_from}
use Rattle.bpf_plain.proofs.reading.read_changes.Given as goal

abbrev pub invariant-loop-offset : goal.invariant-loop-offset
invariant-loop-offset l = record {
  read : (xs more : List ℕ) → length xs ≡ length l.fn.bytes → IsPadded l.cpus l.array (slice_index l.fn.bytes) xs → l.saved ≡ changes
      (slice_index l.fn.bytes) xs ++ more
      → ((x : ℕ) → x < l.offset → slice_index l.bytes x ≡ slice_index xs x) ×
      (drop l.at l.saved ≡ changes_from (slice_index l.fn.bytes) l.offset (drop l.offset xs) ++ (low_bytes 4 0 ++ more));
  rest : (x : ℕ) → l.offset ≤ x → slice_index l.bytes x ≡ slice_index l.fn.bytes x;
  padded : IsPadded l.cpus l.array (slice_index l.fn.bytes) l.bytes;
  inside : l.at ≤ length l.saved;
}
