use Rattle.hop_words.proofs.Tallies.{locks}
use Rattle.hop_words.proofs.lane.Lane.lock.Goals as goal

pub exchange_noted-found-requires-clause-step : goal.exchange_noted-found-requires-clause-step
exchange_noted-found-requires-clause-step c = locks c.args.table.now.about c.args.self.now.known c.args.map c.args.segment c.args.stamp
    c.requires.inside.0 c.requires.born c.requires.even
