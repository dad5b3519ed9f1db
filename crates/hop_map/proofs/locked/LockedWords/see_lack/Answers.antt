use Rattle.std.proofs.Common.{◌∙◌}
use Rattle.hop_map.proofs.Offering.{counts_of, lack_ready}
use Rattle.hop_map.proofs.locked.LockedWords.see_lack.Goals as goal

pub see_count_lacking-count-requires-clause-counts : goal.see_count_lacking-count-requires-clause-counts
see_count_lacking-count-requires-clause-counts c =
    counts_of _ _ c.self.view_is c.args.request.now.key.now c.args.request.now.value.now c.args.request.now.flags c.self.invariant.ready
    c.requires.contents c.requires.wants
    c.requires.absent c.requires.new

pub invariant_of-self : goal.invariant_of-self
invariant_of-self c =
    let i = c.self.inside in
    record {
      seated = c.see_count_lacking-count.ensures.table ∙ c.self.invariant.seated;
      keyed = c.self.invariant.keyed;
      small = c.self.invariant.small;
      counted = c.self.invariant.counted;
      begins = c.self.invariant.begins;
      room = c.self.invariant.room;
      ready = lack_ready i.table.now.about i.lane.known i.map i.segment c.self.invariant.ready c.args.request.now.key.now
          c.args.request.now.value.now c.args.request.now.flags
          c.see_count_lacking-count.result c.see_count_lacking-count.new.self.known c.see_count_lacking-count.ensures.seen;
    }
