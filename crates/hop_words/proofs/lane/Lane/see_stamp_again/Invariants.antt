use Rattle.hop_words.specs.Kinds.{StampSeenAgain}
use Rattle.hop_words.specs.Peeking.{latest_reading}
use Rattle.hop_words.proofs.lane.Lane.see_stamp_again.Given as goal

abbrev pub ghosts-load_noted : goal.ghosts-load_noted
ghosts-load_noted a = record { told = λ n l. StampSeenAgain a.table.now.about a.self.now.known (latest_reading a.self.now.known) a._said.0.now a._said.1 n l }
