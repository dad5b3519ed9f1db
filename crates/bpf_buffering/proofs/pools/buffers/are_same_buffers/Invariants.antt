use Rattle.std.proofs.Common.{◌≡◌, map, take}
use Rattle.bpf_buffering.proofs.Waits.{items_of}
use Rattle.bpf_buffering.proofs.pools.buffers.are_same_buffers.Given as goal

abbrev pub invariant-loop-cpu : goal.invariant-loop-cpu
invariant-loop-cpu l = map items_of (take l.cpu l.one) ≡ map items_of (take l.cpu l.other)
