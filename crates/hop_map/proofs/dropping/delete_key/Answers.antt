use Rattle.std.proofs.Common.{ap, sym, subst, arith}
use Rattle.bpf_shared.specs.declared.events.Event.TheVariants.{Delete}
use Rattle.bpf_shared.specs.declared.events.MapAnswer.TheVariants.{Absent}
use Rattle.hop_words.specs.Kinds.{AnswersUnderLock}
use Rattle.hop_words.specs.Locking.{lock_of}
use Rattle.hop_seg.specs.Spots.{IsSpot}
use Rattle.hop_map.specs.LockedSegment.{Locked, Ready}
use Rattle.hop_map.specs.Private.LockedSegment.{seen_words}
use Rattle.hop_map.proofs.Removing.{drop_sound, drop_answers, worn_answers}
use Rattle.hop_map.proofs.dropping.delete_key.Goals as goal

pub unlock_delete-requires-in-None-clause-answers : goal.unlock_delete-requires-in-None-clause-answers
unlock_delete-requires-in-None-clause-answers c =
    let x = c.args.words in
    let key = c.args.key.now in
    subst (λ (z : Locked). Ready z.about z.known z.map z.segment → AnswersUnderLock z.about z.known (lock_of z.known)
    (Delete z.map key Absent)) (sym c.locate.ensures.rests)
    (drop_answers x key c.requires.contents c.requires.names (c.in-None.ensures.found (seen_words x)
    (ap seen_words (sym c.locate.ensures.rests)) (drop_sound x key c.requires.contents c.requires.names) c.requires.home))

pub drop_key-lane-requires-clause-there : goal.drop_key-lane-requires-clause-there
drop_key-lane-requires-clause-there c =
    let x = c.args.words in
    let key = c.args.key.now in
    subst (λ (z : Locked). IsSpot (seen_words z) key c.in-Some.found) (sym c.locate.ensures.rests)
    (c.in-Some.ensures.found (seen_words x) (ap seen_words (sym c.locate.ensures.rests))
    (drop_sound x key c.requires.contents c.requires.names) c.requires.home)

pub unlock_delete-requires-clause-answers : goal.unlock_delete-requires-clause-answers
unlock_delete-requires-clause-answers c =
    let last = c.if-lock-ge-WORN.true in
    let is = c.requires.stamp in
    worn_answers c.args.words c.args.key.now c.requires.contents c.requires.names (omega arith)
