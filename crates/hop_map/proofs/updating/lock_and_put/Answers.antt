use Rattle.std.proofs.Common.{ℕ, subst, ◌∙◌}
use Rattle.hop_map.specs.Private.UnderLock.{LockShows}
use Rattle.hop_map.specs.Private.Updates.{Offers, SpillsTo, UpdateEnds}
use Rattle.hop_map.proofs.Locking.{of_words, of_parts, locked_ready, locked_contents, locked_offers, ends_before, taken_home, taken_own}
use Rattle.hop_map.proofs.updating.lock_and_put.Goals as goal

pub new-words-requires : goal.new-words-requires
new-words-requires g c =
    let i = c.homing-at.ensures in
    record {
      fits = record {
        seated = c.lock_home-taken.ensures.table ∙ c.requires.table;
        keyed = i.key;
        small = i.small;
        counted = i.elements;
        ready = locked_ready c.args.call.now.table.now.about c.args.lane.known c.args.call.now.map c.lock_home-taken.result.segment
            c.lock_home-taken.result.stamp c.lock_home-taken.ensures.taken.inside c.args.call.now.request.key.now c.args.element c.requires.readies.carries
            c.lock_home-taken.new.lane.known c.lock_home-taken.ensures.taken.locked c.requires.readies.idle;
      };
    }

pub put-requires-clause-contents : goal.put-requires-clause-contents
put-requires-clause-contents g c =
    let made = c.new-words.ensures in
    of_words c.new-words.result _ _ _ _ made.about made.known made.map made.segment LockShows
    (locked_contents c.args.call.now.table.now.about c.args.lane.known c.args.call.now.map c.lock_home-taken.result.segment c.lock_home-taken.result.stamp
    c.lock_home-taken.ensures.taken.inside c.lock_home-taken.new.lane.known c.lock_home-taken.ensures.taken.locked)

pub put-requires-clause-offers : goal.put-requires-clause-offers
put-requires-clause-offers g c =
    let made = c.new-words.ensures in
    of_words c.new-words.result _ _ _ _ made.about made.known made.map made.segment
    (λ a l m s. Offers a l m s c.args.call.now.request.key.now c.args.call.now.request.value.now c.args.call.now.request.flags c.args.element)
    (locked_offers c.args.call.now.table.now.about c.args.lane.known c.args.call.now.map c.lock_home-taken.result.segment c.lock_home-taken.result.stamp
    c.lock_home-taken.ensures.taken.inside c.args.call.now.request.key.now c.args.call.now.request.value.now c.args.call.now.request.flags
    c.args.element c.requires.readies
    c.lock_home-taken.new.lane.known c.lock_home-taken.ensures.taken.locked
    (taken_home c.args.call.now.table.now.about c.args.lane.known c.args.call.now.map c.lock_home-taken.result.segment c.lock_home-taken.result.stamp
    c.homing-at.result.home c.args.call.now.request.key.now c.lock_home-taken.new.lane.known c.homing-at.ensures.home c.lock_home-taken.ensures.taken))

pub returns-clause-ends : goal.returns-clause-ends
returns-clause-ends g c =
    let made = c.new-words.ensures in (
      c.lock_home-taken.result.segment,
      c.lock_home-taken.result.stamp,
      taken_own c.args.call.now.table.now.about c.args.lane.known c.args.call.now.map c.lock_home-taken.result.segment c.lock_home-taken.result.stamp
          c.homing-at.result.home c.args.call.now.request.key.now c.lock_home-taken.new.lane.known c.homing-at.ensures.home c.lock_home-taken.ensures.taken,
      ends_before c.args.call.now.table.now.about c.args.lane.known c.args.call.now.map c.lock_home-taken.result.segment c.lock_home-taken.result.stamp
          c.args.call.now.request.key.now c.args.call.now.request.value.now c.args.call.now.request.flags c.lock_home-taken.new.lane.known
          c.lock_home-taken.ensures.taken.locked
          c.requires.readies.idle c.put.result.1 c.put.result.0.known
          (of_parts c.new-words.result _ _ _ _ made.about made.known made.map made.segment
          (λ a l m s. UpdateEnds a l m c.args.call.now.request.key.now c.args.call.now.request.value.now c.args.call.now.request.flags
          c.put.result.1 c.put.result.0.known) c.put.ensures.ends),
      c.put.ensures.order,
      subst (λ (i : ℕ). SpillsTo i c.put.result.1) made.segment c.put.ensures.spilled,
    )
