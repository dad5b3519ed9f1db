use Rattle.std.proofs.Common.{subst}
use Rattle.hop_words.specs.Ghost.{IsSegment}
use Rattle.hop_map.specs.LockedSegment.{Locked}
use Rattle.hop_map.proofs.locked.LockedWords.segment.Goals as goal

pub returns-clause-inside : goal.returns-clause-inside
returns-clause-inside c = subst (λ (x : Locked). IsSegment x.about x.map x.segment) c.self.view_is c.self.invariant.ready.inside
