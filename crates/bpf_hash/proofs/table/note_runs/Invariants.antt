use Rattle.std.proofs.Common.{◌≡◌, ℕ, ◌<◌, length, slice_index}
use Rattle.bpf_hash.specs.Private.Runs.{run_of}
use Rattle.bpf_hash.proofs.table.note_runs.Given as goal

abbrev pub invariant-loop-cpu : goal.invariant-loop-cpu
invariant-loop-cpu l = record {
  count : length l.notes ≡ length l.initial.notes;
  noted : (c : ℕ) → c < l.cpu → slice_index l.notes c ≡ (run_of l.runs c).count;
}
