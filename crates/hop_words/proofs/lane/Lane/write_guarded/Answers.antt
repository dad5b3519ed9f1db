use Rattle.hop_words.proofs.UnderLock.{write_guarded, may_quiet}
use Rattle.hop_words.proofs.lane.Lane.write_guarded.Goals as goal

pub store_by-requires-clause-step : goal.store_by-requires-clause-step
store_by-requires-clause-step c = write_guarded c.args.table.now.about c.args.self.now.known c.requires.held c.args.place c.args.number
    c.requires.may c.requires.there

pub store_by-requires-clause-quiet : goal.store_by-requires-clause-quiet
store_by-requires-clause-quiet c = may_quiet c.args.table.now.about c.args.self.now.known c.args.place c.requires.may
