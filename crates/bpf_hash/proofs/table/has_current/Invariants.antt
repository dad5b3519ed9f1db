use Rattle.std.proofs.Common.{◌≡◌, ℕ, ◌<◌, false, slice_index}
use Rattle.bpf_hash.specs.Private.Runs.{run_of, is_run}
use Rattle.bpf_hash.proofs.table.has_current.Given as goal

abbrev pub invariant-loop-cpu : goal.invariant-loop-cpu
invariant-loop-cpu l = (c : ℕ) → c < l.cpu → is_run (run_of l.runs c) (slice_index l.notes c) ≡ false
