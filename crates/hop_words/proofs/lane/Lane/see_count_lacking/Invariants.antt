use Rattle.hop_words.specs.Locking.{SeesLack}
use Rattle.hop_words.proofs.lane.Lane.see_count_lacking.Given as goal

abbrev pub ghosts-load_by : goal.ghosts-load_by
ghosts-load_by a = record { told = λ n l. SeesLack a.table.now.about a.self.now.known a._said.now.key.now a._said.now.value.now a._said.now.flags n l }
