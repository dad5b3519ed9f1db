use Rattle.std.proofs.Common.{◌+◌, ◌%◌, ◌^◌, [], ◌∷◌}
use mathlib.Core.Option.{none}
use Rattle.atomic_table.specs.Table.{step}
use Rattle.hop_words.specs.Sights.{sight}
use Rattle.hop_words.proofs.Asked.{at_word}
use Rattle.hop_words.proofs.lane.Lane.add_noted.Goals as goal

pub fetch_add-requires : goal.fetch_add-requires
fetch_add-requires g c =
    let t = c.table.inside in
    at_word t c.self.inside c.args.table.now c.args.self.now c.args.place c.word_of-word.result (λ n. (n + c.args.more) % 2 ^ 64)
    (λ n. sight c.args.place n ((n + c.args.more) % 2 ^ 64) ∷ []) g.E.Tell.told
    (step t.table.shared.table_id.slots c.word_of-word.result c.args.more 0 none)
    c.table.view_is c.self.view_is c.table.invariant c.self.invariant c.requires.table c.requires.place c.word_of-word.ensures.word c.requires.step
