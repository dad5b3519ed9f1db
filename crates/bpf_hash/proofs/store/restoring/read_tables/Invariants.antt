use Rattle.std.proofs.Common.{◌≡◌, ◌<◌, ◌≤◌, ℕ, List, length, take, map}
use Rattle.std.specs.Prelude.{slice_index_or}
use Rattle.bpf_hash.specs.Private.Rows.{no_rows, shape_of}
use Rattle.bpf_hash.specs.Private.Contents.{Contents}
use Rattle.bpf_hash.specs.Private.Normal.{AreSavedTables, AreReadTables}
use Rattle.bpf_hash.specs.Private.Sized.{IsReadTable}
use Rattle.bpf_hash.proofs.store.restoring.read_tables.Given as goal

abbrev pub invariant-loop-map : goal.invariant-loop-map
invariant-loop-map l = record {
  read : (p : Contents) (more : List ℕ) → AreSavedTables (map shape_of l.old) l.cpus l.bytes p more → AreReadTables p l.map l.at l.tables.items;
  inside : l.at ≤ length l.bytes;
  shaped : map shape_of l.tables.items ≡ map shape_of (take l.map l.old);
  tables : (m : ℕ) → m < length l.tables.items → IsReadTable l.cpus (slice_index_or l.tables.items m no_rows);
}
