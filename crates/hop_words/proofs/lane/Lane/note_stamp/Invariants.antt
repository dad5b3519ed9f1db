use Rattle.hop_words.specs.Kinds.{StampNoted}
use Rattle.hop_words.proofs.lane.Lane.note_stamp.Given as goal

abbrev pub ghosts-load_by : goal.ghosts-load_by
ghosts-load_by g a = record { told = λ n l. StampNoted a.table.now.about a.self.now.known a._said.0 a._said.1 n l }
