use Rattle.std.proofs.Common.{sym, subst}
use Rattle.hop_words.specs.Kinds.{IsWritten}
use Rattle.hop_words.specs.Locking.{lock_of}
use Rattle.hop_map.specs.LockedSegment.{Locked, Ready}
use Rattle.hop_map.proofs.locked.LockedWords.unlock_written.Goals as goal

pub unlock_written-requires-clause-written : goal.unlock_written-requires-clause-written
unlock_written-requires-clause-written c =
    subst (λ (x : Locked). Ready x.about x.known x.map x.segment → IsWritten x.about (lock_of x.known)) (sym c.self.view_is)
    c.requires.written c.self.invariant.ready
