use Rattle.hop_words.specs.Peeking.{latest_reading}
use Rattle.hop_words.proofs.Tallies.{peeks}
use Rattle.hop_words.proofs.lane.Lane.peek.Goals as goal

pub load_noted-requires-clause-step : goal.load_noted-requires-clause-step
load_noted-requires-clause-step c = peeks c.args.table.now.about c.args.self.now.known (latest_reading c.args.self.now.known) c.args.place c.requires.reading
