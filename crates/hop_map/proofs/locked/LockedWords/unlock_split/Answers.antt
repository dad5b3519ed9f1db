use Rattle.std.proofs.Common.{sym, subst}
use Rattle.hop_words.specs.Kinds.{Splits}
use Rattle.hop_words.specs.Locking.{lock_of}
use Rattle.hop_map.specs.LockedSegment.{Locked, Ready}
use Rattle.hop_map.proofs.locked.LockedWords.unlock_split.Goals as goal

pub publish_split-requires-clause-splits : goal.publish_split-requires-clause-splits
publish_split-requires-clause-splits c =
    subst (λ (x : Locked). Ready x.about x.known x.map x.segment → Splits x.about x.known (lock_of x.known) c.args.child_stamp)
    (sym c.self.view_is) c.requires.splits c.self.invariant.ready
