use Rattle.bpf_shared.specs.declared.events.Size.TheVariants.{Double}
use Rattle.hop_words.proofs.FixedWords.{some_bytes}
use Rattle.hop_words.proofs.Accesses.{fixed_there, fixed_fetches, adds, ors, ands, xors, swaps, exchanges}
use Rattle.hop_words.proofs.lane.Lane.change_fixed.Goals as goal

pub add_by-requires-clause-place : goal.add_by-requires-clause-place
add_by-requires-clause-place c =
    let p = c.args.part in fixed_there c.args.table.now.about c.args.self.now.known p.array p.word p.offset _ c.requires.changes.touches (some_bytes Double)

pub add_by-requires-clause-step : goal.add_by-requires-clause-step
add_by-requires-clause-step c = adds c.args.table.now.about c.args.self.now.known _ _
    (fixed_fetches c.args.table.now.about c.args.self.now.known c.args.part c.requires.changes) c.args.operand c.args.expected
    c.ranges.operand.fits c.ranges.expected.fits

pub or_by-requires-clause-place : goal.or_by-requires-clause-place
or_by-requires-clause-place c =
    let p = c.args.part in fixed_there c.args.table.now.about c.args.self.now.known p.array p.word p.offset _ c.requires.changes.touches (some_bytes Double)

pub or_by-requires-clause-step : goal.or_by-requires-clause-step
or_by-requires-clause-step c = ors c.args.table.now.about c.args.self.now.known _ _
    (fixed_fetches c.args.table.now.about c.args.self.now.known c.args.part c.requires.changes) c.args.operand c.args.expected
    c.ranges.operand.fits c.ranges.expected.fits

pub and_by-requires-clause-place : goal.and_by-requires-clause-place
and_by-requires-clause-place c =
    let p = c.args.part in fixed_there c.args.table.now.about c.args.self.now.known p.array p.word p.offset _ c.requires.changes.touches (some_bytes Double)

pub and_by-requires-clause-step : goal.and_by-requires-clause-step
and_by-requires-clause-step c = ands c.args.table.now.about c.args.self.now.known _ _
    (fixed_fetches c.args.table.now.about c.args.self.now.known c.args.part c.requires.changes) c.args.operand c.args.expected
    c.ranges.operand.fits c.ranges.expected.fits

pub xor_by-requires-clause-place : goal.xor_by-requires-clause-place
xor_by-requires-clause-place c =
    let p = c.args.part in fixed_there c.args.table.now.about c.args.self.now.known p.array p.word p.offset _ c.requires.changes.touches (some_bytes Double)

pub xor_by-requires-clause-step : goal.xor_by-requires-clause-step
xor_by-requires-clause-step c = xors c.args.table.now.about c.args.self.now.known _ _
    (fixed_fetches c.args.table.now.about c.args.self.now.known c.args.part c.requires.changes) c.args.operand c.args.expected
    c.ranges.operand.fits c.ranges.expected.fits

pub swap_by-requires-clause-place : goal.swap_by-requires-clause-place
swap_by-requires-clause-place c =
    let p = c.args.part in fixed_there c.args.table.now.about c.args.self.now.known p.array p.word p.offset _ c.requires.changes.touches (some_bytes Double)

pub swap_by-requires-clause-step : goal.swap_by-requires-clause-step
swap_by-requires-clause-step c = swaps c.args.table.now.about c.args.self.now.known _ _
    (fixed_fetches c.args.table.now.about c.args.self.now.known c.args.part c.requires.changes) c.args.operand c.args.expected
    c.ranges.operand.fits c.ranges.expected.fits

pub exchange_by-requires-clause-place : goal.exchange_by-requires-clause-place
exchange_by-requires-clause-place c =
    let p = c.args.part in fixed_there c.args.table.now.about c.args.self.now.known p.array p.word p.offset _ c.requires.changes.touches (some_bytes Double)

pub exchange_by-requires-clause-step : goal.exchange_by-requires-clause-step
exchange_by-requires-clause-step c = exchanges c.args.table.now.about c.args.self.now.known _ _
    (fixed_fetches c.args.table.now.about c.args.self.now.known c.args.part c.requires.changes) c.args.operand c.args.expected
    c.ranges.operand.fits c.ranges.expected.fits
