use Rattle.hop_words.specs.Peeking.{latest_reading}
use Rattle.hop_words.proofs.Tallies.{sees_again}
use Rattle.hop_words.proofs.lane.Lane.see_stamp_again.Goals as goal

pub load_noted-requires-clause-step : goal.load_noted-requires-clause-step
load_noted-requires-clause-step c = sees_again c.args.table.now.about c.args.self.now.known (latest_reading c.args.self.now.known)
    c.args.map c.args.segment c.args.key.now c.args.found c.requires.reading.1 c.requires.reading.2 c.requires.finds
