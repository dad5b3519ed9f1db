use Rattle.hop_words.specs.Kinds.{StampSeen}
use Rattle.hop_words.proofs.lane.Lane.see_stamp.Given as goal

abbrev pub ghosts-load_noted : goal.ghosts-load_noted
ghosts-load_noted a = record { told = λ n l. StampSeen a.table.now.about a.self.now.known a._said.0 a._said.1 n l }
