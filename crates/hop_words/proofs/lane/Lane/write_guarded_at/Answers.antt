use Rattle.hop_words.proofs.UnderLock.{write_guarded, may_quiet}
use Rattle.hop_words.proofs.lane.Lane.write_guarded_at.Goals as goal

pub store_at-requires-clause-step : goal.store_at-requires-clause-step
store_at-requires-clause-step c = write_guarded c.args.table.now.about c.args.self.now.known c.requires.held c.args.place c.args.number
    c.requires.may c.requires.there

pub store_at-requires-clause-quiet : goal.store_at-requires-clause-quiet
store_at-requires-clause-quiet c = may_quiet c.args.table.now.about c.args.self.now.known c.args.place c.requires.may
