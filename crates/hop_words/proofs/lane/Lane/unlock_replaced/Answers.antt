use Rattle.std.proofs.Common.{ap, inr, ◌+◌}
use Rattle.hop_words.specs.Locking.{lock_of, hand}
use Rattle.hop_words.specs.Owning.{tail_of}
use Rattle.hop_words.specs.Kinds.{Replaced}
use Rattle.hop_words.proofs.Unlocks.{unlock_replaced}
use Rattle.hop_words.proofs.Locked.{only_last, at_stamp}
use Rattle.hop_words.proofs.lane.Lane.unlock_replaced.Goals as goal

pub unlock_by-requires-clause-step : goal.unlock_by-requires-clause-step
unlock_by-requires-clause-step c = at_stamp c.args.table.now.about c.args.self.now.known c.args.at.map c.args.at.segment c.requires.lock
    c.args.at.stamp 256 (λ ws n l. Replaced c.args.table.now.about c.args.self.now.known (lock_of c.args.self.now.known)
    (tail_of c.args.self.now.known.fresh) c.args.request.now.key.now c.args.request.now.value.now c.args.request.now.flags c.args.old l) c.requires.stamp
    (unlock_replaced c.args.table.now.about c.args.self.now.known (lock_of c.args.self.now.known) (hand c.args.self.now.known)
    (tail_of c.args.self.now.known.fresh) c.args.request.now.key.now c.args.request.now.value.now c.args.request.now.flags c.args.old c.requires.replaces)

pub unlock_by-requires-clause-unlocks : goal.unlock_by-requires-clause-unlocks
unlock_by-requires-clause-unlocks c = (
  only_last c.args.self.now.known c.args.at.map c.args.at.segment c.requires.lock,
  inr
      (ap (λ n. n + 256) c.requires.stamp),
)
