use Rattle.std.proofs.Common.{◌<◌, ℕ}
use Rattle.std.specs.Prelude.{slice_index_or}
use Rattle.bpf_buffering.specs.declared.waiting.Stored.{Stored}
use Rattle.bpf_buffer_expand.specs.Saved.{IsSavable}
use Rattle.bpf_buffer_expand.proofs.buffers.buffer_is_savable.Given as goal

abbrev pub invariant-loop-stored : goal.invariant-loop-stored
invariant-loop-stored l = (k : ℕ) (d : Stored) → k < l.stored-index → IsSavable (slice_index_or l.buffer k d)
