use Rattle.hop_words.specs.Locking.{lock_of}
use Rattle.hop_words.specs.Locking.{SeesRoom}
use Rattle.hop_words.proofs.Counts.{see_count}
use Rattle.hop_words.proofs.Locked.{at_count}
use Rattle.hop_words.proofs.lane.Lane.see_count.Goals as goal

pub load_by-requires-clause-step : goal.load_by-requires-clause-step
load_by-requires-clause-step c = at_count c.args.table.now.about c.args.self.now.known c.args.map (λ n. n)
    (λ ws n l. SeesRoom c.args.table.now.about c.args.self.now.known c.args.request.now.key.now c.args.request.now.value.now
    c.args.request.now.flags n l) c.requires.map
    (see_count c.args.table.now.about c.args.self.now.known (lock_of c.args.self.now.known) c.args.request.now.key.now
    c.args.request.now.value.now c.args.request.now.flags
    c.requires.counts)
