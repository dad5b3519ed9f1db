use Rattle.hop_words.proofs.Tallies.{looks_again}
use Rattle.hop_words.proofs.lane.Lane.see_counter_again.Goals as goal

pub load_noted-requires-clause-step : goal.load_noted-requires-clause-step
load_noted-requires-clause-step c = looks_again c.args.table.now.about c.args.self.now.known c.args.map c.args.cpu c.requires.room c.requires.noted
