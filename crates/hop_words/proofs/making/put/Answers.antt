use Rattle.std.proofs.Common.{ℕ, set, ap, ◌∙◌, arith}
use Rattle.hop_layout.specs.Layout.{mem}
use Rattle.hop_layout.proofs.Layouts.{at_inside, wrote}
use Rattle.hop_words.proofs.making.put.Goals as goal

pub index_mut-requires : goal.index_mut-requires
index_mut-requires c =
    let i = at_inside c.args.index.now.shape c.args.place c.requires.there in let s = c.requires.sized in let w = c.word_of-word.ensures.word in omega arith

pub returns-clause-put : goal.returns-clause-put
returns-clause-put c =
    ap (λ (n : ℕ). mem c.args.index.now.shape (set c.args.words.now.items n c.args.number)) c.word_of-word.ensures.word
    ∙ wrote c.args.index.now.shape c.args.words.now.items c.args.place c.args.number c.requires.sized c.requires.there
