use Rattle.std.proofs.Common.{◌<◌, List, ap, sym, subst, ◌∙◌}
use Rattle.hop_words.specs.declared.known.Known.{Known}
use Rattle.hop_words.specs.declared.known.Fresh.{Fresh}
use Rattle.hop_words.specs.Ghost.{shape_at}
use Rattle.hop_words.specs.Kinds.{IsKeyAbsent, Inserts, Inserted}
use Rattle.hop_words.specs.Owning.{tail_of}
use Rattle.hop_words.specs.Locking.{lock_of, hand}
use Rattle.hop_map.specs.LockedSegment.{Locked, Ready}
use Rattle.hop_map.specs.Private.UnderLock.{LockShows, OffersInsertion}
use Rattle.hop_map.proofs.Counted.{inserts, counted_ready, by_answer}
use Rattle.hop_map.proofs.locked.LockedWords.count_up.Goals as goal

pub count_up-requires-clause-inserts : goal.count_up-requires-clause-inserts
count_up-requires-clause-inserts c =
    let i = c.self.inside in
    let v = sym c.self.view_is in
    let l : Known = i.lane.known in
    let brings = subst (λ (x : Locked). OffersInsertion x.about x.known x.map x.segment c.args.request.now.key.now
    c.args.request.now.value.now c.args.request.now.flags
    c.args.element) v c.requires.brings in
    subst (λ (rest : List Fresh). Inserts i.table.now.about l (lock_of l) (hand l) rest c.args.request.now.key.now
    c.args.request.now.value.now c.args.request.now.flags
    c.args.count) (sym (ap tail_of brings.filled.in_hand))
    (inserts i.table.now.about l i.map i.segment c.self.invariant.ready c.args.request.now.key.now c.args.request.now.value.now
    c.args.request.now.flags c.args.element
    (subst (λ (x : Locked). LockShows x.about x.known x.map x.segment) v c.requires.contents)
    brings
    (subst (λ (x : Locked). IsKeyAbsent x.about (lock_of x.known) c.args.request.now.key.now) v c.requires.absent)
    c.args.count
    (subst (λ (x : Locked). c.args.count < (shape_at x.about x.map).max) v c.requires.room))

pub invariant_of-self : goal.invariant_of-self
invariant_of-self c =
    let i = c.self.inside in
    let v = sym c.self.view_is in
    let l : Known = i.lane.known in
    let brings = subst (λ (x : Locked). OffersInsertion x.about x.known x.map x.segment c.args.request.now.key.now
    c.args.request.now.value.now c.args.request.now.flags
    c.args.element) v c.requires.brings in
    record {
      seated = c.count_up.ensures.table ∙ c.self.invariant.seated;
      keyed = c.self.invariant.keyed;
      small = c.self.invariant.small;
      counted = c.self.invariant.counted;
      begins = c.self.invariant.begins;
      room = c.self.invariant.room;
      ready = by_answer c.count_up.result (Ready i.table.now.about c.count_up.new.self.known i.map i.segment)
          (λ said. counted_ready i.table.now.about l i.map i.segment c.self.invariant.ready c.args.request.now.key.now
          c.args.request.now.value.now c.args.request.now.flags c.args.element
          (subst (λ (x : Locked). LockShows x.about x.known x.map x.segment) v c.requires.contents)
          brings
          (subst (λ (x : Locked). IsKeyAbsent x.about (lock_of x.known) c.args.request.now.key.now) v c.requires.absent)
          c.count_up.new.self.known
          (subst (λ (rest : List Fresh). Inserted i.table.now.about l (lock_of l) (hand l) rest c.args.request.now.key.now
          c.args.request.now.value.now c.args.request.now.flags
          c.count_up.new.self.known) (ap tail_of brings.filled.in_hand) (c.count_up.ensures.done said)))
          (λ unsaid. subst (λ (l : Known). Ready i.table.now.about l i.map i.segment) (sym (c.count_up.ensures.missed unsaid)) c.self.invariant.ready);
    }
