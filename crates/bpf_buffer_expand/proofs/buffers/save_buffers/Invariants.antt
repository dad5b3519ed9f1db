use Rattle.std.proofs.Common.{◌≡◌, ◌++◌, map, take}
use Rattle.bpf_buffering.proofs.Waits.{items_of}
use Rattle.bpf_buffer_expand.specs.Saved.{buffers_saved}
use Rattle.bpf_buffer_expand.proofs.buffers.save_buffers.Given as goal

abbrev pub invariant-loop-buffer : goal.invariant-loop-buffer
invariant-loop-buffer l = l.out.items ≡ l.fn.out.items ++ buffers_saved (map items_of (take l.buffer-index l.buffers))
