use Rattle.std.proofs.Common.{◌∙◌}
use Rattle.hop_words.specs.Kinds.{LookedUp}
use Rattle.hop_words.specs.Locking.{lock_of}
use Rattle.hop_map.specs.Private.UnderLock.{LockShows}
use Rattle.hop_map.proofs.Locking.{of_words, of_parts, empty_fits, locked_contents, taken_own}
use Rattle.hop_map.proofs.Looking.{looked, takes_lock}
use Rattle.hop_map.proofs.finding.locate_locked.Goals as goal

pub new-words-requires : goal.new-words-requires
new-words-requires g c = record {
  fits = empty_fits _ _ c.args.table.now.about c.args.lane.known c.args.map c.lock_home-taken.result.segment
      c.lock_home-taken.result.stamp _ _ c.lock_home-taken.ensures.taken.inside c.lock_home-taken.new.lane.known
      c.lock_home-taken.ensures.taken.locked c.requires.asks.fresh c.requires.asks.locks (c.lock_home-taken.ensures.table ∙ c.requires.table)
      c.homing-at.ensures.key c.homing-at.ensures.small c.homing-at.ensures.elements;
}

pub find_here-requires-clause-contents : goal.find_here-requires-clause-contents
find_here-requires-clause-contents g c =
    let made = c.new-words.ensures in
    of_words c.new-words.result _ _ _ _ made.about made.known made.map made.segment LockShows
    (locked_contents c.args.table.now.about c.args.lane.known c.args.map c.lock_home-taken.result.segment c.lock_home-taken.result.stamp
    c.lock_home-taken.ensures.taken.inside c.lock_home-taken.new.lane.known c.lock_home-taken.ensures.taken.locked)

pub returns-clause-found : goal.returns-clause-found
returns-clause-found g c =
    let made = c.new-words.ensures in
    looked c.args.table.now.about c.args.lane.known c.args.map c.lock_home-taken.result.segment c.lock_home-taken.result.stamp
    c.args.key.now c.lock_home-taken.new.lane.known c.lock_home-taken.ensures.taken.locked c.requires.asks c.find_here.result.1
    c.find_here.result.0.known
    (of_parts c.new-words.result _ _ _ _ made.about made.known made.map made.segment
    (λ a l m s. LookedUp a l (lock_of l) c.args.key.now c.find_here.result.1 c.find_here.result.0.known) c.find_here.ensures.found)

pub returns-clause-locked : goal.returns-clause-locked
returns-clause-locked g c =
    let made = c.new-words.ensures in
    takes_lock c.args.table.now.about c.args.lane.known c.args.map c.lock_home-taken.result.segment c.lock_home-taken.result.stamp
    c.args.key.now c.lock_home-taken.new.lane.known c.lock_home-taken.ensures.taken.locked c.requires.asks c.find_here.result.1
    c.find_here.result.0.known
    (of_parts c.new-words.result _ _ _ _ made.about made.known made.map made.segment
    (λ a l m s. LookedUp a l (lock_of l) c.args.key.now c.find_here.result.1 c.find_here.result.0.known) c.find_here.ensures.found)
    (taken_own c.args.table.now.about c.args.lane.known c.args.map c.lock_home-taken.result.segment c.lock_home-taken.result.stamp
    c.homing-at.result.home c.args.key.now c.lock_home-taken.new.lane.known c.homing-at.ensures.home c.lock_home-taken.ensures.taken)
