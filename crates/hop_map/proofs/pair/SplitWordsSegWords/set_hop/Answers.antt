use Rattle.std.proofs.Common.{ap, subst, ◌∙◌}
use Rattle.hop_seg.specs.Words.{with_hop}
use Rattle.hop_map.specs.LockedSegment.{Locked, Stays}
use Rattle.hop_map.specs.Private.LockedSegment.{seen_words}
use Rattle.hop_map.proofs.pair.SplitWordsSegWords.set_hop.Goals as goal

pub returns-clause-words : goal.returns-clause-words
returns-clause-words c = c.set_hop.ensures.words ∙ ap (λ (x : Locked). with_hop (seen_words x) c.args.bucket c.args.bits) c.self.view_is

pub returns-clause-stays : goal.returns-clause-stays
returns-clause-stays c = subst (λ (x : Locked). Stays x c.set_hop.new.self) c.self.view_is c.set_hop.ensures.stays
