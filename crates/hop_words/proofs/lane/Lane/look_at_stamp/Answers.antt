use Rattle.hop_layout.specs.declared.place.Place.TheVariants.{Stamp}
use Rattle.hop_words.proofs.Tallies.{looks_at}
use Rattle.hop_words.proofs.lane.Lane.look_at_stamp.Goals as goal

pub load_noted-requires-clause-step : goal.load_noted-requires-clause-step
load_noted-requires-clause-step c = looks_at c.args.table.now.about c.args.self.now.known (Stamp c.args.map c.args.segment)
