use Rattle.std.proofs.Common.{◌≡◌, ◌++◌, length, map}
use Rattle.std.specs.List.{AllByRecursion}
use Rattle.bpf_buffering.proofs.Waits.{items_of}
use Rattle.bpf_buffer_expand.specs.Saved.{buffers_saved, AreSavable}
use Rattle.bpf_buffer_expand.proofs.buffers.read_buffers.Given as goal

abbrev pub invariant-loop-cpu : goal.invariant-loop-cpu
invariant-loop-cpu l = record {
  read : l.bytes ≡ buffers_saved (map items_of l.found.items) ++ l.rest;
  count : length l.found.items ≡ l._cpu;
  savable : AllByRecursion AreSavable (map items_of l.found.items);
}
