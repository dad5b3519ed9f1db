use Rattle.hop_layout.proofs.Births.{splits_bear_one_child as law}
use Rattle.hop_layout.proofs.laws.splits_bear_one_child.Goals as goal

pub returns : goal.returns
returns c = law
