use Rattle.hop_words.proofs.Accesses.{value_there, stores}
use Rattle.hop_words.proofs.lane.Lane.store_value.Goals as goal

pub store_by-requires-clause-place : goal.store_by-requires-clause-place
store_by-requires-clause-place c =
    let p = c.args.part in value_there c.args.table.now.about c.args.self.now.known p.map p.element p.word p.offset _ c.requires.touches

pub store_by-requires-clause-step : goal.store_by-requires-clause-step
store_by-requires-clause-step c = stores c.args.table.now.about c.args.self.now.known c.args.part c.requires.touches c.args.number
