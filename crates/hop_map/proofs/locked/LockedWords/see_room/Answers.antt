use Rattle.std.proofs.Common.{◌∙◌}
use Rattle.hop_map.proofs.Offering.{counts_of, room_ready}
use Rattle.hop_map.proofs.locked.LockedWords.see_room.Goals as goal

pub see_count-count-requires-clause-counts : goal.see_count-count-requires-clause-counts
see_count-count-requires-clause-counts c =
    counts_of _ _ c.self.view_is c.args.request.now.key.now c.args.request.now.value.now c.args.request.now.flags c.self.invariant.ready
    c.requires.contents c.requires.wants
    c.requires.absent c.requires.new

pub invariant_of-self : goal.invariant_of-self
invariant_of-self c =
    let i = c.self.inside in
    record {
      seated = c.see_count-count.ensures.table ∙ c.self.invariant.seated;
      keyed = c.self.invariant.keyed;
      small = c.self.invariant.small;
      counted = c.self.invariant.counted;
      begins = c.self.invariant.begins;
      room = c.self.invariant.room;
      ready = room_ready i.table.now.about i.lane.known i.map i.segment c.self.invariant.ready c.args.request.now.key.now
          c.args.request.now.value.now c.args.request.now.flags
          c.see_count-count.result c.see_count-count.new.self.known c.see_count-count.ensures.seen;
    }
