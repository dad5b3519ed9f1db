use Rattle.std.proofs.Common.{ℕ, ◌<◌, [], map}
use Rattle.std.specs.Prelude.{slice_index_or}
use Rattle.bpf_buffering.specs.Jobs.{tasks_of}
use Rattle.bpf_buffering.proofs.Waits.{items_of}
use Rattle.bpf_buffer_expand.specs.Private.Fits.{FitsCpu}
use Rattle.bpf_buffer_expand.proofs.fits.fit_all.Given as goal

abbrev pub invariant-loop-cpu : goal.invariant-loop-cpu
invariant-loop-cpu l = (k : ℕ) → k < l.cpu → FitsCpu l.shape (tasks_of l.jobs) k (slice_index_or (map items_of l.buffers) k [])
