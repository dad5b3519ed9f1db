use Rattle.hop_words.proofs.FixedWords.{some_bytes}
use Rattle.hop_words.proofs.FixedWords.{fixed_load}
use Rattle.hop_words.proofs.Accesses.{fixed_there}
use Rattle.hop_words.proofs.lane.Lane.load_fixed.Goals as goal

pub load_by-requires-clause-place : goal.load_by-requires-clause-place
load_by-requires-clause-place c =
    let p = c.args.part in fixed_there c.args.table.now.about c.args.self.now.known p.array p.word p.offset _ c.requires.touches (some_bytes p.size)

pub load_by-requires-clause-step : goal.load_by-requires-clause-step
load_by-requires-clause-step c =
    let p = c.args.part in fixed_load c.args.table.now.about c.args.self.now.known p.array p.word p.offset p.size c.requires.touches
