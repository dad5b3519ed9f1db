use Rattle.std.proofs.Common.{◌≡◌, ℕ, ◌<◌, ◌≤◌, length, slice_index_or}
use Rattle.bpf_hash.specs.Private.Rows.{no_rows, Forgets, IsTable}
use Rattle.bpf_hash.proofs.store.HashStore.make_countable.Given as goal

abbrev pub invariant-loop-table : goal.invariant-loop-table
invariant-loop-table l = record {
  count : length l.table-items ≡ length l.initial.table-items;
  done : (m : ℕ) → m < l.table-index → Forgets l.cpu (slice_index_or l.initial.table-items m no_rows)
      (slice_index_or l.table-items m no_rows) × IsTable (slice_index_or l.table-items m no_rows);
  rest : (m : ℕ) → l.table-index ≤ m → slice_index_or l.table-items m no_rows ≡ slice_index_or l.initial.table-items m no_rows;
}
