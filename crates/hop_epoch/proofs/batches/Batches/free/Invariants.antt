use Rattle.std.specs.Prelude.{◌≡◌, length}
use Rattle.hop_words.specs.Ghost.{limbo_at}
use Rattle.hop_epoch.specs.Batch.{Tracks, KeepsBatches}
use Rattle.hop_epoch.proofs.batches.Batches.free.Given as goal

abbrev pub invariant-loop-left : goal.invariant-loop-left
invariant-loop-left l =
    (l.lane.table ≡ l.fn.table.id)
    × Tracks l.fn.table.about l.lane.known l.fn.self.map l.fn.self.young l.left l.fn.self.noted
    × KeepsBatches l.fn.self.map l.fn.lane.known l.lane.known
    × ((limbo_at l.lane.known.limbo l.fn.self.map).young ≡ (limbo_at l.fn.lane.known.limbo l.fn.self.map).young)
    × ((limbo_at l.lane.known.limbo l.fn.self.map).noted ≡ (limbo_at l.fn.lane.known.limbo l.fn.self.map).noted)

abbrev pub decreases-loop-left : goal.decreases-loop-left
decreases-loop-left l = length (limbo_at l.lane.known.limbo l.fn.self.map).old
