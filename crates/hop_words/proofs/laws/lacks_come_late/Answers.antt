use Rattle.hop_words.proofs.Lacking.{lacks_come_late as law}
use Rattle.hop_words.proofs.laws.lacks_come_late.Goals as goal

pub returns : goal.returns
returns c = law
