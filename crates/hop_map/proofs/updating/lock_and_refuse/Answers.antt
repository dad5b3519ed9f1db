use Rattle.std.proofs.Common.{◌∙◌}
use Rattle.hop_words.specs.Kinds.{SawAllTaken}
use Rattle.hop_map.specs.Private.UnderLock.{LockShows}
use Rattle.hop_map.specs.Private.Updates.{Wants, Refusal}
use Rattle.hop_map.proofs.Locking.{of_words, of_parts, empty_fits, locked_contents, locked_wants, refusal_before, taken_home, taken_own}
use Rattle.hop_map.proofs.Wholes.{saw_locked}
use Rattle.hop_map.proofs.updating.lock_and_refuse.Goals as goal

pub new-words-requires : goal.new-words-requires
new-words-requires g c = record {
  fits = empty_fits _ _ c.args.call.now.table.now.about c.args.lane.known c.args.call.now.map c.lock_home-taken.result.segment
      c.lock_home-taken.result.stamp _ _ c.lock_home-taken.ensures.taken.inside c.lock_home-taken.new.lane.known
      c.lock_home-taken.ensures.taken.locked c.requires.empty c.requires.idle (c.lock_home-taken.ensures.table ∙ c.requires.table)
      c.homing-at.ensures.key c.homing-at.ensures.small c.homing-at.ensures.elements;
}

pub refuse-requires-clause-contents : goal.refuse-requires-clause-contents
refuse-requires-clause-contents g c =
    let made = c.new-words.ensures in
    of_words c.new-words.result _ _ _ _ made.about made.known made.map made.segment LockShows
    (locked_contents c.args.call.now.table.now.about c.args.lane.known c.args.call.now.map c.lock_home-taken.result.segment c.lock_home-taken.result.stamp
    c.lock_home-taken.ensures.taken.inside c.lock_home-taken.new.lane.known c.lock_home-taken.ensures.taken.locked)

pub refuse-requires-clause-wants : goal.refuse-requires-clause-wants
refuse-requires-clause-wants g c =
    let made = c.new-words.ensures in
    of_words c.new-words.result _ _ _ _ made.about made.known made.map made.segment
    (λ a l m s. Wants a l m s c.args.call.now.request.key.now c.args.call.now.request.value.now c.args.call.now.request.flags)
    (locked_wants c.args.call.now.table.now.about c.args.lane.known c.args.call.now.map c.lock_home-taken.result.segment c.lock_home-taken.result.stamp
    c.args.call.now.request.key.now c.args.call.now.request.value.now c.args.call.now.request.flags c.lock_home-taken.new.lane.known
    c.lock_home-taken.ensures.taken.locked
    c.requires.brought (taken_home c.args.call.now.table.now.about c.args.lane.known c.args.call.now.map c.lock_home-taken.result.segment
    c.lock_home-taken.result.stamp c.homing-at.result.home c.args.call.now.request.key.now c.lock_home-taken.new.lane.known c.homing-at.ensures.home
    c.lock_home-taken.ensures.taken))

pub returns-clause-refused : goal.returns-clause-refused
returns-clause-refused g c =
    let made = c.new-words.ensures in (
      c.lock_home-taken.result.segment,
      c.lock_home-taken.result.stamp,
      taken_own c.args.call.now.table.now.about c.args.lane.known c.args.call.now.map c.lock_home-taken.result.segment c.lock_home-taken.result.stamp
          c.homing-at.result.home c.args.call.now.request.key.now c.lock_home-taken.new.lane.known c.homing-at.ensures.home c.lock_home-taken.ensures.taken,
      refusal_before c.args.call.now.table.now.about c.args.lane.known c.args.call.now.map c.lock_home-taken.result.segment c.lock_home-taken.result.stamp
          c.args.call.now.request.key.now c.args.call.now.request.value.now c.args.call.now.request.flags c.lock_home-taken.new.lane.known
          c.lock_home-taken.ensures.taken.locked
          c.requires.idle c.refuse.result.1 c.refuse.result.0.known
          (of_parts c.new-words.result _ _ _ _ made.about made.known made.map made.segment
          (λ a l m s. Refusal a l m c.args.call.now.request.key.now c.args.call.now.request.value.now c.args.call.now.request.flags
          c.refuse.result.1 c.refuse.result.0.known)
          c.refuse.ensures.refused),
      c.refuse.ensures.order,
    )

pub refuse-requires-clause-lacks : goal.refuse-requires-clause-lacks
refuse-requires-clause-lacks g c =
    let made = c.new-words.ensures in
    of_words c.new-words.result _ _ _ _ made.about made.known made.map made.segment (λ a l m s. SawAllTaken a l m)
    (saw_locked c.args.call.now.table.now.about c.args.lane.known c.args.call.now.map c.lock_home-taken.result.segment c.lock_home-taken.result.stamp
    c.lock_home-taken.new.lane.known c.lock_home-taken.ensures.taken.locked c.requires.lacks)
