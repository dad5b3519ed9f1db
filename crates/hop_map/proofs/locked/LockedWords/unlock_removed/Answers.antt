use Rattle.std.proofs.Common.{sym, subst}
use Rattle.hop_words.specs.declared.known.Known.{Known}
use Rattle.hop_words.specs.Kinds.{IsWritten}
use Rattle.hop_words.specs.Locking.{lock_of}
use Rattle.hop_map.specs.LockedSegment.{Locked, Ready}
use Rattle.hop_map.proofs.Removing.{dropping}
use Rattle.hop_map.proofs.locked.LockedWords.unlock_removed.Goals as goal

pub unlock_written-requires-clause-written : goal.unlock_written-requires-clause-written
unlock_written-requires-clause-written c =
    subst (λ (q : Known). IsWritten c.self.inside.table.now.about (lock_of q)) (sym c.count_down.ensures.done.after)
    (subst (λ (x : Locked). Ready x.about x.known x.map x.segment → IsWritten x.about (dropping x.known c.args.key.now))
    (sym c.self.view_is) c.requires.written c.self.invariant.ready)
