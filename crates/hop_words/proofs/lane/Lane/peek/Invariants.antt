use Rattle.std.specs.Prelude.{◌≡◌}
use Rattle.hop_words.specs.Kinds.{peeking}
use Rattle.hop_words.specs.Peeking.{latest_reading}
use Rattle.hop_words.proofs.lane.Lane.peek.Given as goal

abbrev pub ghosts-load_noted : goal.ghosts-load_noted
ghosts-load_noted a = record { told = λ n l. l ≡ peeking a.self.now.known (latest_reading a.self.now.known) a.place n }
