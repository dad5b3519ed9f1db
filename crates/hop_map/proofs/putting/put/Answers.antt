use Rattle.std.proofs.Common.{sym, subst}
use Rattle.bpf_shared.specs.declared.events.Event.TheVariants.{Update}
use Rattle.hop_words.specs.Kinds.{AnswersUnderLock}
use Rattle.hop_words.specs.Locking.{lock_of}
use Rattle.hop_seg.specs.Content.{IsAbsent}
use Rattle.hop_seg.specs.Spots.{IsSpot}
use Rattle.hop_map.specs.LockedSegment.{Locked, Ready}
use Rattle.hop_map.specs.Private.LockedSegment.{seen_words}
use Rattle.hop_map.proofs.putting.put.Goals as goal

pub unlock_update-requires-clause-answers : goal.unlock_update-requires-clause-answers
unlock_update-requires-clause-answers g c =
    subst (λ (z : Locked). Ready z.about z.known z.map z.segment → AnswersUnderLock z.about z.known (lock_of z.known)
    (Update z.map c.args.request.now.key.now c.args.request.now.value.now c.args.request.now.flags c.in-Refuses.answer)) (sym c.judge.ensures.same)
    c.in-Refuses.ensures.judges.3

pub put_over-lane-requires-clause-there : goal.put_over-lane-requires-clause-there
put_over-lane-requires-clause-there g c =
    subst (λ (z : Locked). IsSpot (seen_words z) c.args.request.now.key.now c.in-There.found) (sym c.judge.ensures.same) c.in-There.ensures.judges.2

pub put_new-requires-clause-absent : goal.put_new-requires-clause-absent
put_new-requires-clause-absent g c =
    subst (λ (z : Locked). IsAbsent (seen_words z) c.args.request.now.key.now) (sym c.judge.ensures.same) c.in-Missing.ensures.judges.2
