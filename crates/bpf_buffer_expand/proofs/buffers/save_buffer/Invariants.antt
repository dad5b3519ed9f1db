use Rattle.std.proofs.Common.{◌≡◌, ◌++◌, length, take}
use Rattle.std.specs.List.{flat_map}
use Rattle.bpf_buffer_expand.specs.Saved.{count_saved, stored_saved}
use Rattle.bpf_buffer_expand.proofs.buffers.save_buffer.Given as goal

abbrev pub invariant-loop-stored : goal.invariant-loop-stored
invariant-loop-stored l = l.out.items ≡ l.fn.out.items ++ (count_saved (length l.buffer) ++ flat_map stored_saved (take l.stored-index l.buffer))
