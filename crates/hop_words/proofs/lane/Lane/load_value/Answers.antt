use Rattle.hop_words.proofs.Values.{value_load}
use Rattle.hop_words.proofs.Accesses.{value_there}
use Rattle.hop_words.proofs.lane.Lane.load_value.Goals as goal

pub load_by-requires-clause-place : goal.load_by-requires-clause-place
load_by-requires-clause-place c =
    let p = c.args.part in value_there c.args.table.now.about c.args.self.now.known p.map p.element p.word p.offset _ c.requires.touches

pub load_by-requires-clause-step : goal.load_by-requires-clause-step
load_by-requires-clause-step c =
    let p = c.args.part in value_load c.args.table.now.about c.args.self.now.known p.map p.element p.word p.offset p.size c.requires.touches
