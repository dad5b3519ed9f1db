use Rattle.std.proofs.Common.{◌≡◌, ℕ, ◌<◌, length, slice_index_or, []}
use Rattle.bpf_shared.specs.declared.shapes.ArrayShape.{ArrayShape}
use Rattle.bpf_shared.specs.Contents.{bytes_of_all}
use Rattle.bpf_shared.specs.Shape.{IsArray, contents_of}
use Rattle.bpf_plain.specs.Private.Contents.{IsAsMade}
use Rattle.bpf_plain.proofs.bytes.new_arrays.Given as goal

-- the first arrays are as they are at first
abbrev pub invariant-loop-number : goal.invariant-loop-number
invariant-loop-number l = record {
  count : length l.arrays.items ≡ l.number;
  each : (a : ℕ) (g : ArrayShape) → a < l.number → IsArray l.shape.arrays a g
      → IsAsMade l.shape.cpus g (contents_of l.shape a) (slice_index_or (bytes_of_all l.arrays.items) a []);
}
