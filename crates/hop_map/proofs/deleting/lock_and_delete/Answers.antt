use Rattle.std.proofs.Common.{◌∙◌}
use Rattle.hop_map.specs.Private.UnderLock.{LockShows}
use Rattle.hop_map.specs.Private.Removals.{NamesKey, DeleteEnds}
use Rattle.hop_map.proofs.Locking.{of_words, of_parts, empty_fits, locked_contents, locked_names, delete_before, taken_home, taken_own}
use Rattle.hop_map.proofs.deleting.lock_and_delete.Goals as goal

pub new-words-requires : goal.new-words-requires
new-words-requires g c = record {
  fits = empty_fits _ _ c.args.call.now.table.now.about c.args.lane.known c.args.call.now.map c.lock_home-taken.result.segment
      c.lock_home-taken.result.stamp _ _ c.lock_home-taken.ensures.taken.inside c.lock_home-taken.new.lane.known
      c.lock_home-taken.ensures.taken.locked c.requires.empty c.requires.idle (c.lock_home-taken.ensures.table ∙ c.requires.table)
      c.homing-at.ensures.key c.homing-at.ensures.small c.homing-at.ensures.elements;
}

pub delete_key-requires-clause-contents : goal.delete_key-requires-clause-contents
delete_key-requires-clause-contents g c =
    let made = c.new-words.ensures in
    of_words c.new-words.result _ _ _ _ made.about made.known made.map made.segment LockShows
    (locked_contents c.args.call.now.table.now.about c.args.lane.known c.args.call.now.map c.lock_home-taken.result.segment c.lock_home-taken.result.stamp
    c.lock_home-taken.ensures.taken.inside c.lock_home-taken.new.lane.known c.lock_home-taken.ensures.taken.locked)

pub delete_key-requires-clause-names : goal.delete_key-requires-clause-names
delete_key-requires-clause-names g c =
    let made = c.new-words.ensures in
    of_words c.new-words.result _ _ _ _ made.about made.known made.map made.segment (λ a l m s. NamesKey a l m s c.args.call.now.key.now)
    (locked_names c.args.call.now.table.now.about c.args.lane.known c.args.call.now.map c.lock_home-taken.result.segment c.lock_home-taken.result.stamp
    c.args.call.now.key.now c.lock_home-taken.new.lane.known c.lock_home-taken.ensures.taken.locked c.requires.names
    (taken_home c.args.call.now.table.now.about c.args.lane.known c.args.call.now.map c.lock_home-taken.result.segment c.lock_home-taken.result.stamp
    c.homing-at.result.home c.args.call.now.key.now c.lock_home-taken.new.lane.known c.homing-at.ensures.home c.lock_home-taken.ensures.taken))

pub returns-clause-ends : goal.returns-clause-ends
returns-clause-ends g c =
    let made = c.new-words.ensures in (
      c.lock_home-taken.result.segment,
      c.lock_home-taken.result.stamp,
      taken_own c.args.call.now.table.now.about c.args.lane.known c.args.call.now.map c.lock_home-taken.result.segment c.lock_home-taken.result.stamp
          c.homing-at.result.home c.args.call.now.key.now c.lock_home-taken.new.lane.known c.homing-at.ensures.home c.lock_home-taken.ensures.taken,
      delete_before c.args.call.now.table.now.about c.args.lane.known c.args.call.now.map c.lock_home-taken.result.segment c.lock_home-taken.result.stamp
          c.args.call.now.key.now c.lock_home-taken.new.lane.known c.lock_home-taken.ensures.taken.locked c.requires.idle c.delete_key.result.1
          c.delete_key.result.0.known
          (of_parts c.new-words.result _ _ _ _ made.about made.known made.map made.segment
          (λ a l m s. DeleteEnds a l m c.args.call.now.key.now c.delete_key.result.1 c.delete_key.result.0.known) c.delete_key.ensures.ends),
      c.delete_key.ensures.order,
    )
