use Rattle.std.proofs.Common.{ap, sym, subst, ◌∙◌}
use Rattle.hop_seg.specs.Segment.{element_key}
use Rattle.hop_seg.specs.Words.{IsKnown}
use Rattle.hop_map.specs.LockedSegment.{Locked, Stays}
use Rattle.hop_map.specs.Lemmas.Keeping.{stays_itself}
use Rattle.hop_map.specs.Private.LockedSegment.{seen_words}
use Rattle.hop_map.proofs.pair.SplitWordsChildWords.home.Goals as goal

pub home_of_key-requires-clause-inside : goal.home_of_key-requires-clause-inside
home_of_key-requires-clause-inside c = (subst (λ (x : Locked). IsKnown (seen_words x).fixed c.args.element) (sym c.self.view_is) c.requires).1

pub home_of_key-requires-clause-known : goal.home_of_key-requires-clause-known
home_of_key-requires-clause-known c = (subst (λ (x : Locked). IsKnown (seen_words x).fixed c.args.element) (sym c.self.view_is) c.requires).0

pub returns-clause-value : goal.returns-clause-value
returns-clause-value c = c.home_of_key.ensures.home ∙ ap (λ (x : Locked). (seen_words x).fixed.home (element_key (seen_words x) c.args.element)) c.self.view_is

pub returns-clause-same : goal.returns-clause-same
returns-clause-same c = ap seen_words (c.home_of_key.ensures.same ∙ c.self.view_is)

pub returns-clause-stays : goal.returns-clause-stays
returns-clause-stays c = subst (Stays c.args.self.now) (sym (c.home_of_key.ensures.same ∙ c.self.view_is)) (stays_itself c.args.self.now)
