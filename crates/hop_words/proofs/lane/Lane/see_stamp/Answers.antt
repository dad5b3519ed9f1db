use Rattle.hop_words.proofs.Tallies.{sees_stamp}
use Rattle.hop_words.proofs.lane.Lane.see_stamp.Goals as goal

pub load_noted-requires-clause-step : goal.load_noted-requires-clause-step
load_noted-requires-clause-step c = sees_stamp c.args.table.now.about c.args.self.now.known c.args.map c.args.segment c.requires.inside.0 c.requires.born
