use Rattle.std.specs.Prelude.{◌≡◌}
use Rattle.hop_words.specs.Sights.{sighted}
use Rattle.hop_words.specs.Locking.{lock_of, unlocking_last}
use Rattle.hop_words.specs.Listing.{lock_given}
use Rattle.hop_words.proofs.lane.Lane.unlock_listed.Given as goal

abbrev pub ghosts-unlock_noted : goal.ghosts-unlock_noted
ghosts-unlock_noted a = record { told = λ n l. l ≡ sighted (unlocking_last a.self.now.known) (lock_given (lock_of a.self.now.known)) }
