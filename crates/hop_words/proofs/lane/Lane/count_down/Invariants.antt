use Rattle.hop_words.specs.Kinds.{Removed}
use Rattle.hop_words.specs.Locking.{lock_of}
use Rattle.hop_words.proofs.lane.Lane.count_down.Given as goal

abbrev pub ghosts-add_by : goal.ghosts-add_by
ghosts-add_by a = record { told = λ n l. Removed a.table.now.about a.self.now.known (lock_of a.self.now.known) a._said.0.now a._said.1 l }
