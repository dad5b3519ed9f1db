use Rattle.hop_words.proofs.Accesses.{value_there}
use Rattle.hop_words.proofs.Locked.{looks}
use Rattle.hop_words.proofs.lane.Lane.look_at_value.Goals as goal

pub load_by-requires-clause-place : goal.load_by-requires-clause-place
load_by-requires-clause-place g c =
    let p = c.args.part in value_there c.args.table.now.about c.args.self.now.known p.map p.element p.word p.offset _ c.requires.touches

pub load_by-requires-clause-step : goal.load_by-requires-clause-step
load_by-requires-clause-step g c = looks c.args.table.now.about c.args.self.now.known _
