use Rattle.std.proofs.Common.{sym, subst, ◌∙◌}
use Rattle.hop_words.specs.Kinds.{IsKeyAbsent}
use Rattle.hop_words.specs.Locking.{lock_of}
use Rattle.hop_map.specs.LockedSegment.{Locked}
use Rattle.hop_map.specs.Private.UnderLock.{OffersInsertion}
use Rattle.hop_map.proofs.Offering.{brings}
use Rattle.hop_map.proofs.locked.LockedWords.count_in.Goals as goal

pub see_room-requires-clause-absent : goal.see_room-requires-clause-absent
see_room-requires-clause-absent g c = subst (λ (x : Locked). IsKeyAbsent x.about (lock_of x.known) c.args.request.now.key.now)
    (sym c.loop.invariant) c.requires.absent

pub count_up-requires-clause-brings : goal.count_up-requires-clause-brings
count_up-requires-clause-brings g c =
    let x = c.args.self.now in
    subst (λ (x : Locked). OffersInsertion x.about x.known x.map x.segment c.args.request.now.key.now c.args.request.now.value.now
    c.args.request.now.flags c.args.element)
    (sym (c.in-Some-see_room.ensures.room.0 ∙ c.loop.invariant))
    (brings x.about x.known x.map x.segment c.args.request.now.key.now c.args.request.now.value.now c.args.request.now.flags c.args.element
    c.requires.offers c.requires.new)

pub count_up-requires-clause-absent : goal.count_up-requires-clause-absent
count_up-requires-clause-absent g c = subst (λ (x : Locked). IsKeyAbsent x.about (lock_of x.known) c.args.request.now.key.now)
    (sym (c.in-Some-see_room.ensures.room.0 ∙ c.loop.invariant)) c.requires.absent
