use Rattle.hop_words.specs.Owning.{GivesOld}
use Rattle.hop_words.proofs.lane.Lane.give_old_bit.Given as goal

abbrev pub ghosts-add_noted : goal.ghosts-add_noted
ghosts-add_noted a = record { told = λ n l. GivesOld a.self.now.known a._said.0 a._said.1 n l }
