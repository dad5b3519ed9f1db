use Rattle.std.specs.Prelude.{◌≡◌, ◌<◌, length}
use Rattle.hop_words.specs.Ghost.{limbo_at}
use Rattle.hop_epoch.specs.Batch.{Notes, LooksAtCounters, AreEven}
use Rattle.hop_epoch.proofs.batches.Batches.is_past.Given as goal

abbrev pub invariant-loop-cpu : goal.invariant-loop-cpu
invariant-loop-cpu l =
    (l.lane.table ≡ l.fn.table.id)
    × (l.self.map ≡ l.fn.self.map) × (l.self.young ≡ l.fn.self.young) × (l.self.aged ≡ l.fn.self.aged)
    × (l.fn.self.map < length l.lane.known.limbo)
    × LooksAtCounters l.fn.self.map l.fn.lane.known l.lane.known
    × Notes l.fn.table.about (limbo_at l.lane.known.limbo l.fn.self.map).noted l.self.noted
    × AreEven l.cpu l.self.noted
    × (length l.self.noted ≡ 16)
