use Rattle.hop_words.proofs.UnderLock.{write_stamp_beside, beside_stamp_is}
use Rattle.hop_words.proofs.lane.Lane.write_stamp_beside.Goals as goal

pub beside_by-requires-clause-step : goal.beside_by-requires-clause-step
beside_by-requires-clause-step c = write_stamp_beside c.args.table.now.about c.args.self.now.known c.requires.held c.args.place c.args.stamp
    c.requires.beside c.requires.there

pub beside_by-requires-clause-beside : goal.beside_by-requires-clause-beside
beside_by-requires-clause-beside c = beside_stamp_is c.args.self.now.known c.args.place c.args.stamp c.requires.beside c.requires.even
