use Rattle.hop_words.specs.Kinds.{LookedUp}
use Rattle.hop_words.specs.Locking.{lock_of}
use Rattle.hop_words.proofs.lane.Lane.unlock_lookup.Given as goal

abbrev pub ghosts-unlock_by : goal.ghosts-unlock_by
ghosts-unlock_by a = record { told = λ n l. LookedUp a.table.now.about a.self.now.known (lock_of a.self.now.known) a._said.0.now a._said.1 l }
