use Rattle.hop_layout.proofs.Births.{each_has_one_owner as law}
use Rattle.hop_layout.proofs.laws.each_has_one_owner.Goals as goal

pub returns : goal.returns
returns c = law
