use Rattle.hop_words.proofs.FixedWords.{some_bytes}
use Rattle.hop_words.proofs.Accesses.{fixed_there}
use Rattle.hop_words.proofs.Locked.{looks}
use Rattle.hop_words.proofs.lane.Lane.look_at_fixed.Goals as goal

pub load_by-requires-clause-place : goal.load_by-requires-clause-place
load_by-requires-clause-place g c =
    let p = c.args.part in fixed_there c.args.table.now.about c.args.self.now.known p.array p.word p.offset _ c.requires.touches (some_bytes p.size)

pub load_by-requires-clause-step : goal.load_by-requires-clause-step
load_by-requires-clause-step g c = looks c.args.table.now.about c.args.self.now.known _
