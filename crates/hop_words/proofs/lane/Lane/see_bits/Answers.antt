use Rattle.hop_layout.specs.declared.place.Place.TheVariants.{FreeBits}
use Rattle.hop_words.proofs.Tallies.{looks_at}
use Rattle.hop_words.proofs.lane.Lane.see_bits.Goals as goal

pub load_noted-requires-clause-step : goal.load_noted-requires-clause-step
load_noted-requires-clause-step c = looks_at c.args.table.now.about c.args.self.now.known (FreeBits c.args.map c.args.word)
