use Rattle.std.proofs.Common.{ap, subst, ◌∙◌}
use Rattle.hop_seg.specs.Words.{with_slot}
use Rattle.hop_map.specs.LockedSegment.{Locked, Stays}
use Rattle.hop_map.specs.Private.LockedSegment.{seen_words}
use Rattle.hop_map.proofs.pair.SplitWordsSegWords.set_slot.Goals as goal

pub returns-clause-words : goal.returns-clause-words
returns-clause-words c = c.set_slot.ensures.words ∙ ap (λ (x : Locked). with_slot (seen_words x) c.args.place c.args.item) c.self.view_is

pub returns-clause-stays : goal.returns-clause-stays
returns-clause-stays c = subst (λ (x : Locked). Stays x c.set_slot.new.self) c.self.view_is c.set_slot.ensures.stays
