use Rattle.std.proofs.Common.{ap, sym, ◌∙◌}
use Rattle.hop_map.specs.Private.LockedSegment.{seen_words, locked_elements}
use Rattle.hop_map.proofs.pair.SplitWordsSegReads.elements.Goals as goal

pub returns-clause-limit : goal.returns-clause-limit
returns-clause-limit c = λ w a. c.elements.ensures.limit w (a ∙ ap seen_words (sym c.self.view_is))

pub returns-clause-count : goal.returns-clause-count
returns-clause-count c = c.elements.ensures.count ∙ ap locked_elements c.self.view_is
