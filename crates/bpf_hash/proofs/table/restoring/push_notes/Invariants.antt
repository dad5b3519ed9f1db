use Rattle.std.proofs.Common.{◌≡◌, ◌++◌, map, take, slice_index}
use Rattle.bpf_hash.specs.Private.Contents.{any_below}
use Rattle.bpf_hash.specs.Private.Normal.{low_bit, high_bit, is_note}
use Rattle.bpf_hash.proofs.table.restoring.push_notes.Given as goal

abbrev pub invariant-loop-note : goal.invariant-loop-note
invariant-loop-note l = record {
  held : l.looked_up.items ≡ l.fn.looked_up.items ++ map low_bit (take l.note-index l.notes);
  left : l.left.items ≡ l.fn.left.items ++ map high_bit (take l.note-index l.notes);
  noted : l.noted ≡ any_below l.note-index (λ c. is_note (slice_index l.notes c));
}
