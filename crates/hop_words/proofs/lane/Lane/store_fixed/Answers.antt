use Rattle.bpf_shared.specs.declared.events.Size.TheVariants.{Double}
use Rattle.hop_words.proofs.FixedWords.{some_bytes}
use Rattle.hop_words.proofs.Accesses.{fixed_there, fixed_stores}
use Rattle.hop_words.proofs.lane.Lane.store_fixed.Goals as goal

pub store_by-requires-clause-place : goal.store_by-requires-clause-place
store_by-requires-clause-place c =
    let p = c.args.part in fixed_there c.args.table.now.about c.args.self.now.known p.array p.word p.offset _ c.requires.changes.touches (some_bytes Double)

pub store_by-requires-clause-step : goal.store_by-requires-clause-step
store_by-requires-clause-step c = fixed_stores c.args.table.now.about c.args.self.now.known c.args.part c.requires.changes c.args.number
