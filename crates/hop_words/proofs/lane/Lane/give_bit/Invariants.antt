use Rattle.hop_words.specs.Owning.{GivesFresh}
use Rattle.hop_words.proofs.lane.Lane.give_bit.Given as goal

abbrev pub ghosts-or_noted : goal.ghosts-or_noted
ghosts-or_noted a = record { told = λ n l. GivesFresh a.self.now.known a._said.0 a._said.1 n l }
