use Rattle.std.proofs.Common.{◌≡◌, inl}
use Rattle.hop_words.specs.Locking.{lock_of, unlocking_last}
use Rattle.hop_words.proofs.Unlocks.{unlock_silent}
use Rattle.hop_words.proofs.Locked.{at_last_stamp}
use Rattle.hop_words.proofs.lane.Lane.unlock_silent.Goals as goal

pub unlock_by-requires-clause-step : goal.unlock_by-requires-clause-step
unlock_by-requires-clause-step c = at_last_stamp c.args.table.now.about c.args.self.now.known c.args.at.map c.args.at.segment c.requires.lock
    c.args.at.stamp (λ ws n l. l ≡ unlocking_last c.args.self.now.known) c.requires.stamp
    (unlock_silent c.args.table.now.about c.args.self.now.known (lock_of c.args.self.now.known) c.requires.lock.0 c.requires.elsewhere
    c.requires.clean)

pub unlock_by-requires-clause-unlocks : goal.unlock_by-requires-clause-unlocks
unlock_by-requires-clause-unlocks c = (c.requires.lock, inl c.requires.stamp)
