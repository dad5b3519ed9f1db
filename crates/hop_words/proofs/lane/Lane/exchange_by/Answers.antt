use Rattle.std.proofs.Common.{◌==◌, []}
use mathlib.Core.Option.{none}
use prog.Atomic.{either}
use Rattle.atomic_table.specs.Table.{step}
use Rattle.hop_words.proofs.Asked.{at_word}
use Rattle.hop_words.proofs.lane.Lane.exchange_by.Goals as goal

pub compare_exchange-requires : goal.compare_exchange-requires
compare_exchange-requires g c =
    let t = c.table.inside in
    at_word t c.self.inside c.args.table.now c.args.self.now c.args.place c.word_of-word.result (λ n. either (n == c.args.old) c.args.new n)
    (λ n. []) g.E.Tell.told (step t.table.shared.table_id.slots c.word_of-word.result c.args.old c.args.new none)
    c.table.view_is c.self.view_is c.table.invariant c.self.invariant c.requires.table c.requires.place c.word_of-word.ensures.word c.requires.step
