use Rattle.hop_words.proofs.UnderLock.{read_guarded}
use Rattle.hop_words.proofs.lane.Lane.read_guarded_at.Goals as goal

pub load_at-requires-clause-step : goal.load_at-requires-clause-step
load_at-requires-clause-step c = read_guarded c.args.table.now.about c.args.self.now.known c.requires.held c.args.place
