use Rattle.std.proofs.Common.{◌≡◌, map, take}
use Rattle.bpf_buffering.proofs.Waits.{items_of}
use Rattle.bpf_buffering.proofs.pools.buffers.copy_buffers.Given as goal

abbrev pub invariant-loop-buffer : goal.invariant-loop-buffer
invariant-loop-buffer l = map items_of l.copies.items ≡ map items_of (take l.buffer-index l.buffers)
