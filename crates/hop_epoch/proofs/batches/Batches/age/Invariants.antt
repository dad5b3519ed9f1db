use Rattle.std.specs.Prelude.{◌≡◌, ℕ, ◌<◌, [], length, slice_index}
use Rattle.hop_words.specs.Ghost.{limbo_at}
use Rattle.hop_epoch.specs.Batch.{KeepsBatches}
use Rattle.hop_epoch.proofs.batches.Batches.age.Given as goal

abbrev pub invariant-loop-cpu : goal.invariant-loop-cpu
invariant-loop-cpu l =
    (l.lane.table ≡ l.fn.table.id)
    × (l.self.map ≡ l.fn.self.map) × (l.self.young ≡ l.fn.self.young)
    × (l.fn.self.map < length l.lane.known.limbo)
    × KeepsBatches l.fn.self.map l.fn.lane.known l.lane.known
    × (l.lane.known.tally ≡ l.fn.lane.known.tally)
    × ((limbo_at l.lane.known.limbo l.fn.self.map).young ≡ [])
    × ((limbo_at l.lane.known.limbo l.fn.self.map).old ≡ (limbo_at l.fn.lane.known.limbo l.fn.self.map).young)
    × (length (limbo_at l.lane.known.limbo l.fn.self.map).noted ≡ l.cpu)
    × ((d : ℕ) → d < l.cpu → slice_index (limbo_at l.lane.known.limbo l.fn.self.map).noted d ≡ slice_index l.self.noted d)
