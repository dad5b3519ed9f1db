use Rattle.std.proofs.Common.{ℕ, ◌<◌}
use Rattle.std.specs.Prelude.{slice_index_or}
use Rattle.bpf_buffering.specs.declared.waiting.Stored.{Stored}
use Rattle.bpf_buffer_expand.specs.State.{MayHaveStored}
use Rattle.bpf_buffer_expand.proofs.fits.may_have_stored_all.Given as goal

abbrev pub invariant-loop-stored : goal.invariant-loop-stored
invariant-loop-stored l = (k : ℕ) (d : Stored) → k < l.stored-index → MayHaveStored l.shape l.held (slice_index_or l.buffer k d)
