use Rattle.std.proofs.Common.{◌≡◌, ℕ, ◌<◌, ◌≤◌, length, slice_index_or}
use Rattle.bpf_hash.specs.Private.Rows.{no_rows}
use Rattle.bpf_hash.proofs.store.saving.copy_tables.Given as goal

abbrev pub invariant-loop-map : goal.invariant-loop-map
invariant-loop-map l = record {
  count : length l.tables ≡ length l.initial.tables;
  done : (m : ℕ) → m < l.map → slice_index_or l.tables m no_rows ≡ slice_index_or l.others m no_rows;
  rest : (m : ℕ) → l.map ≤ m → slice_index_or l.tables m no_rows ≡ slice_index_or l.initial.tables m no_rows;
}
