use Rattle.hop_words.proofs.Accesses.{value_there, value_fetches, adds, ors, ands, xors, swaps, exchanges}
use Rattle.hop_words.proofs.lane.Lane.change_value.Goals as goal

pub add_by-requires-clause-place : goal.add_by-requires-clause-place
add_by-requires-clause-place c =
    let p = c.args.part in value_there c.args.table.now.about c.args.self.now.known p.map p.element p.word p.offset _ c.requires.touches

pub add_by-requires-clause-step : goal.add_by-requires-clause-step
add_by-requires-clause-step c = adds c.args.table.now.about c.args.self.now.known _ _
    (value_fetches c.args.table.now.about c.args.self.now.known c.args.part c.requires.touches) c.args.operand c.args.expected
    c.ranges.operand.fits c.ranges.expected.fits

pub or_by-requires-clause-place : goal.or_by-requires-clause-place
or_by-requires-clause-place c =
    let p = c.args.part in value_there c.args.table.now.about c.args.self.now.known p.map p.element p.word p.offset _ c.requires.touches

pub or_by-requires-clause-step : goal.or_by-requires-clause-step
or_by-requires-clause-step c = ors c.args.table.now.about c.args.self.now.known _ _
    (value_fetches c.args.table.now.about c.args.self.now.known c.args.part c.requires.touches) c.args.operand c.args.expected
    c.ranges.operand.fits c.ranges.expected.fits

pub and_by-requires-clause-place : goal.and_by-requires-clause-place
and_by-requires-clause-place c =
    let p = c.args.part in value_there c.args.table.now.about c.args.self.now.known p.map p.element p.word p.offset _ c.requires.touches

pub and_by-requires-clause-step : goal.and_by-requires-clause-step
and_by-requires-clause-step c = ands c.args.table.now.about c.args.self.now.known _ _
    (value_fetches c.args.table.now.about c.args.self.now.known c.args.part c.requires.touches) c.args.operand c.args.expected
    c.ranges.operand.fits c.ranges.expected.fits

pub xor_by-requires-clause-place : goal.xor_by-requires-clause-place
xor_by-requires-clause-place c =
    let p = c.args.part in value_there c.args.table.now.about c.args.self.now.known p.map p.element p.word p.offset _ c.requires.touches

pub xor_by-requires-clause-step : goal.xor_by-requires-clause-step
xor_by-requires-clause-step c = xors c.args.table.now.about c.args.self.now.known _ _
    (value_fetches c.args.table.now.about c.args.self.now.known c.args.part c.requires.touches) c.args.operand c.args.expected
    c.ranges.operand.fits c.ranges.expected.fits

pub swap_by-requires-clause-place : goal.swap_by-requires-clause-place
swap_by-requires-clause-place c =
    let p = c.args.part in value_there c.args.table.now.about c.args.self.now.known p.map p.element p.word p.offset _ c.requires.touches

pub swap_by-requires-clause-step : goal.swap_by-requires-clause-step
swap_by-requires-clause-step c = swaps c.args.table.now.about c.args.self.now.known _ _
    (value_fetches c.args.table.now.about c.args.self.now.known c.args.part c.requires.touches) c.args.operand c.args.expected
    c.ranges.operand.fits c.ranges.expected.fits

pub exchange_by-requires-clause-place : goal.exchange_by-requires-clause-place
exchange_by-requires-clause-place c =
    let p = c.args.part in value_there c.args.table.now.about c.args.self.now.known p.map p.element p.word p.offset _ c.requires.touches

pub exchange_by-requires-clause-step : goal.exchange_by-requires-clause-step
exchange_by-requires-clause-step c = exchanges c.args.table.now.about c.args.self.now.known _ _
    (value_fetches c.args.table.now.about c.args.self.now.known c.args.part c.requires.touches) c.args.operand c.args.expected
    c.ranges.operand.fits c.ranges.expected.fits
