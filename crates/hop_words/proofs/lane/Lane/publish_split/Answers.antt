use Rattle.std.proofs.Common.{ap, ◌+◌}
use Rattle.hop_words.proofs.Tallies.{publishes}
use Rattle.hop_words.proofs.lane.Lane.publish_split.Goals as goal

pub split_noted-requires-clause-step : goal.split_noted-requires-clause-step
split_noted-requires-clause-step c = publishes c.args.table.now.about c.args.self.now.known c.args.at.map c.args.at.segment c.args.at.stamp
    c.args.child_stamp c.requires.lock c.requires.stamp c.requires.splits

pub split_noted-requires-clause-splits : goal.split_noted-requires-clause-splits
split_noted-requires-clause-splits c = (c.requires.lock, ap (λ n. n + 258) c.requires.stamp)
