use Rattle.std.proofs.Common.{sym, subst}
use Rattle.hop_words.specs.Kinds.{LooksUpLocked}
use Rattle.hop_words.specs.Locking.{lock_of}
use Rattle.hop_map.specs.LockedSegment.{Locked, Ready}
use Rattle.hop_map.proofs.locked.LockedWords.unlock_lookup.Goals as goal

pub unlock_lookup-requires-clause-looks : goal.unlock_lookup-requires-clause-looks
unlock_lookup-requires-clause-looks c =
    subst (λ (x : Locked). Ready x.about x.known x.map x.segment → LooksUpLocked x.about x.known (lock_of x.known) c.args.key.now
    c.args.found) (sym c.self.view_is) c.requires.looks c.self.invariant.ready
