use Rattle.std.specs.Prelude.{◌≡◌}
use Rattle.hop_epoch.specs.Batch.{KeepsBatches}
use Rattle.hop_map.specs.Call.{Searches, AreBatchesOf}
use Rattle.hop_map.proofs.updating.claim_patiently.Given as goal

abbrev pub invariant-patience : goal.invariant-patience
invariant-patience l = record {
  table : l.lane.table ≡ l.fn.lane.table;
  keeps : KeepsBatches l.fn.arena.map l.fn.lane.known l.lane.known;
  arena : Searches l.table.about l.fn.arena.map l.arena;
  batches : AreBatchesOf l.table.about l.lane.known l.fn.arena.map l.batches;
}
