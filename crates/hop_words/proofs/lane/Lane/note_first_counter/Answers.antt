use Rattle.hop_words.proofs.Turns.{see_first_counter}
use Rattle.hop_words.proofs.lane.Lane.note_first_counter.Goals as goal

pub load_by-requires-clause-step : goal.load_by-requires-clause-step
load_by-requires-clause-step c = see_first_counter c.args.table.now.about c.args.self.now.known c.args.map c.requires.room c.requires.empty
