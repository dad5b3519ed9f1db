use Rattle.std.proofs.Common.{◌≡◌, ◌++◌, length}
use Rattle.std.specs.List.{flat_map, AllByRecursion}
use Rattle.bpf_buffer_expand.specs.Saved.{stored_saved, IsSavable}
use Rattle.bpf_buffer_expand.proofs.buffers.read_all.Given as goal

abbrev pub invariant-loop-place : goal.invariant-loop-place
invariant-loop-place l = record {
  read : l.bytes ≡ flat_map stored_saved l.found.items ++ l.rest;
  count : length l.found.items ≡ l._place;
  savable : AllByRecursion IsSavable l.found.items;
}
