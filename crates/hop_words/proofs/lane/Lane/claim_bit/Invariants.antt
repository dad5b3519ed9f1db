use Rattle.hop_words.specs.Owning.{ClaimsBit}
use Rattle.hop_words.proofs.lane.Lane.claim_bit.Given as goal

abbrev pub ghosts-and_noted : goal.ghosts-and_noted
ghosts-and_noted a = record { told = λ n l. ClaimsBit a.self.now.known a._said.0 a._said.1 n l }
