use Rattle.std.specs.Prelude.{◌≡◌}
use Rattle.hop_map.specs.Private.Listing.{ReadsMore}
use Rattle.hop_map.proofs.waiting.lock_number.Given as goal

abbrev pub invariant-tries : goal.invariant-tries
invariant-tries g l = record {
  table : l.lane.table ≡ l.fn.lane.table;
  kept : ReadsMore l.fn.lane.known l.lane.known;
}
