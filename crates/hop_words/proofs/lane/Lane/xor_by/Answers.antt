use Rattle.std.proofs.Common.{bit_xor, []}
use mathlib.Core.Option.{none}
use Rattle.atomic_table.specs.Table.{step}
use Rattle.hop_words.proofs.Asked.{at_word}
use Rattle.hop_words.proofs.lane.Lane.xor_by.Goals as goal

pub fetch_xor-requires : goal.fetch_xor-requires
fetch_xor-requires g c =
    let t = c.table.inside in
    at_word t c.self.inside c.args.table.now c.args.self.now c.args.place c.word_of-word.result (λ n. bit_xor n c.args.mask) (λ n. [])
    g.E.Tell.told (step t.table.shared.table_id.slots c.word_of-word.result c.args.mask 0 none)
    c.table.view_is c.self.view_is c.table.invariant c.self.invariant c.requires.table c.requires.place c.word_of-word.ensures.word c.requires.step
