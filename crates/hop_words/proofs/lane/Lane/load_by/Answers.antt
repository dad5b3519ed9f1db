use Rattle.std.proofs.Common.{[]}
use mathlib.Core.Option.{none}
use Rattle.atomic_table.specs.Table.{step}
use Rattle.hop_words.proofs.Asked.{at_word}
use Rattle.hop_words.proofs.lane.Lane.load_by.Goals as goal

pub load-requires : goal.load-requires
load-requires g c =
    let t = c.table.inside in
    at_word t c.self.inside c.args.table.now c.args.self.now c.args.place c.word_of-word.result (λ n. n) (λ n. []) g.E.Tell.told
    (step t.table.shared.table_id.slots c.word_of-word.result 0 0 none)
    c.table.view_is c.self.view_is c.table.invariant c.self.invariant c.requires.table c.requires.place c.word_of-word.ensures.word c.requires.step
