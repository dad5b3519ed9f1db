use Rattle.std.proofs.Common.{◌≡◌, ◌+◌, ◌++◌, ◌%◌, length, slice_index}
use Rattle.std.specs.Io.{StartsWith}
use Rattle.bpf_plain.specs.Private.Changes.{changes_from}
use Rattle.bpf_plain.proofs.changes.push_changes.Given as goal

abbrev pub invariant-loop-rest : goal.invariant-loop-rest
invariant-loop-rest l = record {
  size : l.offset + length l.rest ≡ length l.bytes;
  begins : StartsWith l.out.items l.fn.out.items;
  out : l.out.items ++ changes_from (λ x. slice_index l.first (x % l.stride)) l.offset l.rest
      ≡ l.fn.out.items ++ changes_from (λ x. slice_index l.first (x % l.stride)) 0 l.bytes;
}

abbrev pub decreases-loop-rest : goal.decreases-loop-rest
decreases-loop-rest l = length l.rest
