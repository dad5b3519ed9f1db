use Rattle.std.specs.Prelude.{◌≡◌}
use Rattle.hop_words.specs.Locking.{unlocking_last}
use Rattle.hop_words.proofs.lane.Lane.unlock_silent.Given as goal

abbrev pub ghosts-unlock_by : goal.ghosts-unlock_by
ghosts-unlock_by a = record { told = λ n l. l ≡ unlocking_last a.self.now.known }
