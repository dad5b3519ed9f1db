use Rattle.hop_words.proofs.Lacking.{few_updates_suffice as law}
use Rattle.hop_words.proofs.laws.few_updates_suffice.Goals as goal

pub returns : goal.returns
returns c = law
