use Rattle.std.proofs.Common.{◌≡◌, ℕ, ◌<◌, length, map, take, slice_index_or}
use Rattle.bpf_hash.specs.Private.Rows.{no_rows, shape_of, IsBlank, IsTable}
use Rattle.bpf_hash.proofs.store.new_tables.Given as goal

abbrev pub invariant-loop-map : goal.invariant-loop-map
invariant-loop-map l = record {
  shapes : map shape_of l.tables.items ≡ take l.map-index l.maps;
  blank : (m : ℕ) → IsBlank (slice_index_or l.tables.items m no_rows);
  tables : (m : ℕ) → m < length l.tables.items → IsTable (slice_index_or l.tables.items m no_rows) × ((slice_index_or l.tables.items m no_rows).cpus ≡ l.cpus);
}
