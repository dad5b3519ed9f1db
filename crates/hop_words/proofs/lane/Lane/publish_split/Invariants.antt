use Rattle.std.specs.Prelude.{◌≡◌}
use Rattle.hop_words.specs.Kinds.{unlocking}
use Rattle.hop_words.specs.Sights.{sighted, split_made}
use Rattle.hop_words.proofs.lane.Lane.publish_split.Given as goal

abbrev pub ghosts-split_noted : goal.ghosts-split_noted
ghosts-split_noted a = record { told = λ n l. l ≡ sighted (unlocking a.self.now.known) (split_made a._said.0 a._said.1 a._said.2) }
