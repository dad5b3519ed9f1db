use Rattle.std.proofs.Common.{◌≡◌, ◌≢◌, ◌+◌}
use Rattle.hop_words.specs.Kinds.{Inserted}
use Rattle.hop_words.specs.Locking.{lock_of, hand}
use Rattle.hop_words.specs.Owning.{tail_of}
use Rattle.std.proofs.Common.{◌==◌}
use prog.Atomic.{either}
use Rattle.hop_words.proofs.CountUp.{count_up}
use Rattle.hop_words.proofs.Locked.{at_count}
use Rattle.hop_words.proofs.lane.Lane.count_up.Goals as goal

pub exchange_by-found-requires-clause-step : goal.exchange_by-found-requires-clause-step
exchange_by-found-requires-clause-step c = at_count c.args.table.now.about c.args.self.now.known c.args.map
    (λ n. either (n == c.args.count) (c.args.count + 1) n) (λ ws n l.
    (n ≡ c.args.count → Inserted c.args.table.now.about c.args.self.now.known (lock_of c.args.self.now.known) (hand c.args.self.now.known)
    (tail_of c.args.self.now.known.fresh) c.args.request.now.key.now c.args.request.now.value.now c.args.request.now.flags l) ×
    (n ≢ c.args.count → l ≡ c.args.self.now.known))
    c.requires.map (count_up c.args.table.now.about c.args.self.now.known (lock_of c.args.self.now.known) (hand c.args.self.now.known)
    (tail_of c.args.self.now.known.fresh) c.args.request.now.key.now c.args.request.now.value.now c.args.request.now.flags c.args.count c.requires.inserts)
