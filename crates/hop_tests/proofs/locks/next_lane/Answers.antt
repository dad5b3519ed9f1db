use Rattle.std.proofs.Common.{◌∙◌}
use Rattle.hop_tests.proofs.Fresh.{first_new, rest_new}
use Rattle.hop_tests.proofs.locks.next_lane.Goals as goal

pub returns-clause-new : goal.returns-clause-new
returns-clause-new c =
    rest_new c.args.table.now.about c.in_ok-lane.lane.known c.args.lanes.now.lanes c.deal.new.self.lanes c.in_ok-lane.ensures.dealt.0 c.requires.new

pub returns-clause-lane : goal.returns-clause-lane
returns-clause-lane c = (
  c.in_ok-lane.ensures.dealt.1 ∙ c.requires.table,
  first_new c.args.table.now.about c.in_ok-lane.lane.known c.args.lanes.now.lanes c.deal.new.self.lanes c.in_ok-lane.ensures.dealt.0 c.requires.new,
)
