use Rattle.std.proofs.Common.{◌≡◌, ℕ, [], length}
use Rattle.bpf_buffering.specs.Buffering.{stored_at}
use Rattle.bpf_buffering.proofs.buffering.make_buffers.Given as goal

abbrev pub invariant-loop-cpu : goal.invariant-loop-cpu
invariant-loop-cpu l = (length l.buffers.items ≡ l.cpu) × ((c : ℕ) → stored_at l.buffers.items c ≡ [])
