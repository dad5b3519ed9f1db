use Rattle.std.proofs.Common.{ap, ◌∙◌}
use Rattle.bpf_shared.specs.declared.shapes.MapShape.{MapShape}
use Rattle.bpf_shared.specs.Shape.{elements}
use Rattle.hop_map.specs.Private.UnderLock.{LockShows}
use Rattle.hop_map.proofs.Locking.{of_words, empty_fits, locked_contents}
use Rattle.hop_map.proofs.Splits.{ends}
use Rattle.hop_map.proofs.splitting.split_segment.Goals as goal

pub new-words-requires : goal.new-words-requires
new-words-requires g c =
    let t = c.lock_home-taken.ensures.taken in
    let shape = c.shape_of-shape.ensures in
    record {
      fits = empty_fits c.args.table.now.id c.lock_home-taken.new.lane.table c.args.table.now.about c.args.lane.known c.args.map
          c.lock_home-taken.result.segment c.lock_home-taken.result.stamp c.shape_of-shape.result.key c.elements.result t.inside
          c.lock_home-taken.new.lane.known t.locked c.requires.empty c.requires.idle
          (c.lock_home-taken.ensures.table ∙ c.requires.table) (ap (λ (s : MapShape). s.key) shape.shape) shape.sizes.key.1
          (c.elements.ensures.elements ∙ ap elements shape.shape);
    }

pub split_locked-requires-clause-contents : goal.split_locked-requires-clause-contents
split_locked-requires-clause-contents g c =
    let made = c.new-words.ensures in
    let t = c.lock_home-taken.ensures.taken in
    of_words c.new-words.result _ _ _ _ made.about made.known made.map made.segment LockShows
    (locked_contents c.args.table.now.about c.args.lane.known c.args.map c.lock_home-taken.result.segment c.lock_home-taken.result.stamp
    t.inside c.lock_home-taken.new.lane.known t.locked)

pub returns-clause-ends : goal.returns-clause-ends
returns-clause-ends g c =
    let made = c.new-words.ensures in
    ends c.args.table.now.about c.args.lane.known c.args.map c.args.home c.lock_home-taken.result.segment c.lock_home-taken.result.stamp
    c.lock_home-taken.new.lane.known c.lock_home-taken.ensures.taken c.requires.idle
    c.new-words.result made.about made.known made.map made.segment c.split_locked.result.1 c.split_locked.result.0.known c.split_locked.ensures.ends
