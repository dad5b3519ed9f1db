use Rattle.std.specs.Prelude.{◌≡◌}
use Rattle.hop_words.specs.Kinds.{unlocking}
use Rattle.hop_words.proofs.lane.Lane.unlock_written.Given as goal

abbrev pub ghosts-unlock_by : goal.ghosts-unlock_by
ghosts-unlock_by a = record { told = λ n l. l ≡ unlocking a.self.now.known }
