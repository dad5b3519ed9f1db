use Rattle.std.proofs.Common.{ℕ, ◌*◌, ◌∙◌, ap}
use Rattle.hop_layout.specs.Layout.{power}
use Rattle.hop_layout.proofs.Depths.{segment_count}
use Rattle.hop_layout.proofs.index.segment_words.Goals as goal

pub returns-clause-words : goal.returns-clause-words
returns-clause-words c = (segment_count c.depth.result c.depth.ensures.most).0 ∙ ap (λ (d : ℕ). 130 * power d) c.depth.ensures.value

pub returns-clause-most : goal.returns-clause-most
returns-clause-most c = (segment_count c.depth.result c.depth.ensures.most).1
