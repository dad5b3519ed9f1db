use Rattle.hop_words.specs.Ghost.{limbo_at}
use Rattle.hop_words.specs.Owning.{tail_of}
use Rattle.hop_words.proofs.Gives.{read_old_link}
use Rattle.hop_words.proofs.lane.Lane.read_old_link.Goals as goal

pub load_by-requires-clause-step : goal.load_by-requires-clause-step
load_by-requires-clause-step c = read_old_link c.args.table.now.about c.args.self.now.known c.args.map c.args.element
    (tail_of (limbo_at c.args.self.now.known.limbo c.args.map).old) c.requires.old
