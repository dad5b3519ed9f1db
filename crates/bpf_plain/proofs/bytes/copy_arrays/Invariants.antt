use Rattle.std.proofs.Common.{◌≡◌, ℕ, ◌<◌, ◌≤◌, length, slice_index_or, []}
use Rattle.bpf_shared.specs.Contents.{bytes_of_all}
use Rattle.bpf_plain.proofs.bytes.copy_arrays.Given as goal

abbrev pub invariant-loop-number : goal.invariant-loop-number
invariant-loop-number l = record {
  count : length l.arrays ≡ length l.initial.arrays;
  done : (a : ℕ) → a < l.number → slice_index_or (bytes_of_all l.arrays) a [] ≡ slice_index_or (bytes_of_all l.others) a [];
  rest : (a : ℕ) → l.number ≤ a → slice_index_or (bytes_of_all l.arrays) a [] ≡ slice_index_or (bytes_of_all l.initial.arrays) a [];
}
