use Rattle.std.specs.Prelude.{◌≡◌, ℕ, ◌<◌, length}
use Rattle.hop_map.specs.Call.{IsReclaimed}
use Rattle.hop_map.specs.Private.Port.{IsEnding}
use Rattle.hop_map.proofs.leaving.leave_run.Given as goal

abbrev pub invariant-maps : goal.invariant-maps
invariant-maps l =
    (l.lane.table ≡ l.fn.table.id)
    × IsEnding l.fn.table l.initial.lane.known l.lane.known l.batches.items
    × (l.map-end ≡ length l.fn.table.about.shape.maps)
    × ((m : ℕ) → m < l.map → IsReclaimed m l.initial.lane.known.tally l.lane.known)
