use Rattle.std.proofs.Common.{ap, sym, ◌∙◌}
use Rattle.hop_words.specs.Ghost.{shape_at}
use Rattle.hop_map.specs.LockedSegment.{home}
use Rattle.hop_map.proofs.Puts.{spelt_after, sound_after, own_after, absent_after, written_after}
use Rattle.hop_map.proofs.Offering.{brings}
use Rattle.hop_map.proofs.Verdicts.{judge_absent}
use Rattle.hop_map.proofs.putting.put_new.Goals as goal

pub count_in-requires-clause-absent : goal.count_in-requires-clause-absent
count_in-requires-clause-absent g c = judge_absent c.args.words c.args.request.now.key.now c.args.request.now.value.now
    c.args.request.now.flags c.requires.contents
    c.requires.offers.wants c.requires.absent

pub insert-landing-requires-clause-sound : goal.insert-landing-requires-clause-sound
insert-landing-requires-clause-sound g c =
    let x = c.args.words in sound_after c.args.words c.args.request.now.key.now c.args.request.now.value.now c.args.request.now.flags
    c.args.element c.requires.contents
    (brings x.about x.known x.map x.segment c.args.request.now.key.now c.args.request.now.value.now c.args.request.now.flags c.args.element c.requires.offers
    c.requires.new) c.requires.absent
    c.count_in.new.self c.count_in.ensures.table c.count_in.ensures.about c.count_in.ensures.map c.count_in.ensures.segment
    (c.count_in.ensures.counted c.if-not-count_in.false)

pub insert-landing-requires-clause-own : goal.insert-landing-requires-clause-own
insert-landing-requires-clause-own g c =
    let x = c.args.words in own_after c.args.words c.args.request.now.key.now c.args.request.now.value.now c.args.request.now.flags
    c.args.element c.requires.contents
    (brings x.about x.known x.map x.segment c.args.request.now.key.now c.args.request.now.value.now c.args.request.now.flags c.args.element c.requires.offers
    c.requires.new) c.requires.absent
    c.count_in.new.self c.count_in.ensures.table c.count_in.ensures.about c.count_in.ensures.map c.count_in.ensures.segment
    (c.count_in.ensures.counted c.if-not-count_in.false)

pub insert-landing-requires-clause-absent : goal.insert-landing-requires-clause-absent
insert-landing-requires-clause-absent g c =
    let x = c.args.words in absent_after c.args.words c.args.request.now.key.now c.args.request.now.value.now c.args.request.now.flags
    c.args.element c.requires.contents
    (brings x.about x.known x.map x.segment c.args.request.now.key.now c.args.request.now.value.now c.args.request.now.flags c.args.element c.requires.offers
    c.requires.new) c.requires.absent
    c.count_in.new.self c.count_in.ensures.table c.count_in.ensures.about c.count_in.ensures.map c.count_in.ensures.segment
    (c.count_in.ensures.counted c.if-not-count_in.false)

pub insert-landing-requires-clause-home : goal.insert-landing-requires-clause-home
insert-landing-requires-clause-home g c =
    let x = c.args.words in
    let key = spelt_after c.args.words c.args.request.now.key.now c.args.request.now.value.now c.args.request.now.flags c.args.element c.requires.contents
    (brings x.about x.known x.map x.segment c.args.request.now.key.now c.args.request.now.value.now c.args.request.now.flags c.args.element c.requires.offers
    c.requires.new) c.requires.absent
    c.count_in.new.self c.count_in.ensures.table c.count_in.ensures.about c.count_in.ensures.map c.count_in.ensures.segment
    (c.count_in.ensures.counted c.if-not-count_in.false) in
    c.requires.home
    ∙ (sym (λ j. home (c.count_in.ensures.about j).seed (shape_at (c.count_in.ensures.about j) (c.count_in.ensures.map j)).mask c.args.request.now.key.now)
    ∙ ap (home c.count_in.new.self.about.seed (shape_at c.count_in.new.self.about c.count_in.new.self.map).mask) (sym key))

pub unlock_written-requires-clause-written : goal.unlock_written-requires-clause-written
unlock_written-requires-clause-written g c =
    let x = c.args.words in written_after c.args.words c.args.request.now.key.now c.args.request.now.value.now c.args.request.now.flags
    c.args.element c.requires.contents
    (brings x.about x.known x.map x.segment c.args.request.now.key.now c.args.request.now.value.now c.args.request.now.flags c.args.element c.requires.offers
    c.requires.new) c.requires.absent
    c.count_in.new.self c.count_in.ensures.table c.count_in.ensures.about c.count_in.ensures.map c.count_in.ensures.segment
    (c.count_in.ensures.counted c.if-not-count_in.false)
    c.insert-landing.new.words c.insert-landing.ensures.stays c.insert-landing.ensures.gains
