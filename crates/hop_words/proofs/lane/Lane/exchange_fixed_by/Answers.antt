use Rattle.hop_words.proofs.FixedWords.{some_bytes}
use Rattle.hop_words.proofs.FixedWords.{fixed_atomic_part}
use Rattle.hop_words.proofs.Accesses.{fixed_there}
use Rattle.hop_words.proofs.lane.Lane.exchange_fixed_by.Goals as goal

pub exchange_by-requires-clause-place : goal.exchange_by-requires-clause-place
exchange_by-requires-clause-place c =
    let p = c.args.part in fixed_there c.args.table.now.about c.args.self.now.known p.array p.word p.offset _ c.requires.changes.touches (some_bytes p.size)

pub exchange_by-requires-clause-step : goal.exchange_by-requires-clause-step
exchange_by-requires-clause-step c =
    let p = c.args.part in fixed_atomic_part c.args.table.now.about c.args.self.now.known p.array p.word p.offset p.size c.requires.changes
    c.args.operation.op c.args.operation.operand c.args.operation.expected c.args.old c.args.new c.requires.splices
