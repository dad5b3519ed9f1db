use Rattle.std.proofs.Common.{[]}
use mathlib.Core.Option.{none}
use Rattle.atomic_table.specs.Table.{step}
use Rattle.hop_words.proofs.Asked.{at_word}
use Rattle.hop_words.proofs.lane.Lane.store_at.Goals as goal

pub store-requires : goal.store-requires
store-requires g c =
    let t = c.table.inside in
    at_word t c.self.inside c.args.table.now c.args.self.now c.args.place c.args.word (λ _. c.args.new) (λ n. [])
    (λ n l. g.E.Tell.told c.args.new l) (step t.table.shared.table_id.slots c.args.word c.args.new 0 none)
    c.table.view_is c.self.view_is c.table.invariant c.self.invariant c.requires.table c.requires.place c.requires.word c.requires.step
