use Rattle.std.proofs.Common.{ap, sym, subst}
use Rattle.hop_words.specs.Kinds.{LooksUpLocked}
use Rattle.hop_words.specs.Locking.{lock_of}
use Rattle.hop_map.specs.LockedSegment.{Locked, Ready}
use Rattle.hop_map.specs.Private.LockedSegment.{seen_words}
use Rattle.hop_map.proofs.Looking.{look_sound, looks_up}
use Rattle.hop_map.proofs.finding.find_here.Goals as goal

pub unlock_lookup-requires-clause-looks : goal.unlock_lookup-requires-clause-looks
unlock_lookup-requires-clause-looks c =
    let x = c.args.words in
    let key = c.args.key.now in
    subst (λ (z : Locked). Ready z.about z.known z.map z.segment → LooksUpLocked z.about z.known (lock_of z.known) key c.find-found.result)
    (sym c.find-found.ensures.rests)
    (looks_up x key c.requires.contents c.requires.asks c.find-found.result
    (c.find-found.ensures.found (seen_words x) (ap seen_words (sym c.find-found.ensures.rests))
    (look_sound x key c.requires.contents c.requires.asks) c.requires.home))
