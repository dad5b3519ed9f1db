use Rattle.std.proofs.Common.{map, take}
use Rattle.std.specs.List.{AllByRecursion}
use Rattle.bpf_buffering.proofs.Waits.{items_of}
use Rattle.bpf_buffer_expand.specs.Saved.{AreSavable}
use Rattle.bpf_buffer_expand.proofs.buffers.are_savable.Given as goal

abbrev pub invariant-loop-buffer : goal.invariant-loop-buffer
invariant-loop-buffer l = AllByRecursion AreSavable (map items_of (take l.buffer-index l.buffers))
