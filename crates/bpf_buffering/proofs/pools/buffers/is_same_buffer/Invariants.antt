use Rattle.std.proofs.Common.{◌≡◌, take}
use Rattle.bpf_buffering.proofs.pools.buffers.is_same_buffer.Given as goal

abbrev pub invariant-loop-place : goal.invariant-loop-place
invariant-loop-place l = take l.place l.one ≡ take l.place l.other
