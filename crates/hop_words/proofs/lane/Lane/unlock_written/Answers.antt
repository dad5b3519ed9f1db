use Rattle.std.proofs.Common.{◌≡◌, ap, inr, ◌+◌}
use Rattle.hop_words.specs.Kinds.{unlocking}
use Rattle.hop_words.specs.Locking.{lock_of}
use Rattle.hop_words.proofs.Unlocks.{unlock_written}
use Rattle.hop_words.proofs.Locked.{only_last, at_stamp}
use Rattle.hop_words.proofs.lane.Lane.unlock_written.Goals as goal

pub unlock_by-requires-clause-step : goal.unlock_by-requires-clause-step
unlock_by-requires-clause-step c = at_stamp c.args.table.now.about c.args.self.now.known c.args.at.map c.args.at.segment c.requires.lock
    c.args.at.stamp 256 (λ ws n l. l ≡ unlocking c.args.self.now.known) c.requires.stamp
    (unlock_written c.args.table.now.about c.args.self.now.known (lock_of c.args.self.now.known) c.requires.lock.0 c.requires.owes c.requires.written)

pub unlock_by-requires-clause-unlocks : goal.unlock_by-requires-clause-unlocks
unlock_by-requires-clause-unlocks c = (
  only_last c.args.self.now.known c.args.at.map c.args.at.segment c.requires.lock,
  inr
      (ap (λ n. n + 256) c.requires.stamp),
)
