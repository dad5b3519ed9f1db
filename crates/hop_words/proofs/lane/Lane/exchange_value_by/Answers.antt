use Rattle.hop_words.proofs.Values.{value_atomic_part}
use Rattle.hop_words.proofs.Accesses.{value_there}
use Rattle.hop_words.proofs.lane.Lane.exchange_value_by.Goals as goal

pub exchange_by-requires-clause-place : goal.exchange_by-requires-clause-place
exchange_by-requires-clause-place c =
    let p = c.args.part in value_there c.args.table.now.about c.args.self.now.known p.map p.element p.word p.offset _ c.requires.touches

pub exchange_by-requires-clause-step : goal.exchange_by-requires-clause-step
exchange_by-requires-clause-step c =
    let p = c.args.part in value_atomic_part c.args.table.now.about c.args.self.now.known p.map p.element p.word p.offset p.size
    c.requires.touches c.args.operation.op c.args.operation.operand c.args.operation.expected c.args.old c.args.new c.requires.splices
