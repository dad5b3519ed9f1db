use Rattle.hop_words.proofs.Hands.{fills_value}
use Rattle.hop_words.proofs.lane.Lane.fill_value_word.Goals as goal

pub store_by-requires-clause-step : goal.store_by-requires-clause-step
store_by-requires-clause-step c = fills_value c.args.table.now.about c.args.self.now.known c.args.map c.args.element c.requires.element
    c.requires.hand c.args.word c.args.number c.requires.unlocked c.requires.next
