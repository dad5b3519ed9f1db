use Rattle.std.proofs.Common.{◌≡◌, ℕ, length, slice_index_or}
use Rattle.bpf_hash.specs.Private.Runs.{no_runs}
use Rattle.bpf_hash.proofs.store.new_runs.Given as goal

abbrev pub invariant-loop : goal.invariant-loop
invariant-loop l = record {
  count : length l.runs.items ≡ l.counter;
  new : (c : ℕ) → slice_index_or l.runs.items c no_runs ≡ no_runs;
}
