use Rattle.std.proofs.Common.{◌≡◌, ◌++◌, ◌<◌, ◌≤◌, ℕ, List, [], length, drop, slice_index_or}
use Rattle.bpf_shared.specs.declared.shapes.ArrayShape.{ArrayShape}
use Rattle.bpf_shared.specs.Contents.{bytes_of_all}
use Rattle.bpf_shared.specs.Shape.{IsArray}
use Rattle.bpf_hash.specs.Private.Saved.{all_below}
use Rattle.bpf_plain.specs.Private.Contents.{AreArrays, IsArrayOf}
use Rattle.bpf_plain.specs.Private.Saved.{array_block, saved_arrays}
use Rattle.bpf_plain.proofs.reading.fill_arrays.Given as goal

abbrev pub invariant-loop-number : goal.invariant-loop-number
invariant-loop-number l = record {
  count : length l.arrays ≡ length l.initial.arrays;
  read : (others : List (List ℕ)) (more : List ℕ) → AreArrays l.shape others → l.saved ≡ saved_arrays l.shape others ++ more
      → ((a : ℕ) → a < l.number → slice_index_or (bytes_of_all l.arrays) a [] ≡ slice_index_or others a []) ×
      (l.saved ≡ all_below (array_block l.shape others) l.number ++ drop l.at l.saved);
  done : (a : ℕ) (g : ArrayShape) → a < l.number → IsArray l.shape.arrays a g → IsArrayOf l.shape a g (slice_index_or (bytes_of_all l.arrays) a []);
  rest : (a : ℕ) → l.number ≤ a → slice_index_or (bytes_of_all l.arrays) a [] ≡ slice_index_or (bytes_of_all l.initial.arrays) a [];
  inside : l.at ≤ length l.saved;
}
