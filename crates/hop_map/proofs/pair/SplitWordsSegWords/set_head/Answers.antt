use Rattle.std.proofs.Common.{subst}
use Rattle.hop_map.specs.LockedSegment.{Locked, Stays}
use Rattle.hop_map.proofs.pair.SplitWordsSegWords.set_head.Goals as goal

pub returns-clause-stays : goal.returns-clause-stays
returns-clause-stays c = subst (λ (x : Locked). Stays x c.set_head.new.self) c.self.view_is c.set_head.ensures.stays
