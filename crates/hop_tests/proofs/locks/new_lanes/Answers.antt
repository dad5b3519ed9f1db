use Rattle.hop_tests.proofs.Fresh.{lanes_are_new}
use Rattle.hop_tests.proofs.locks.new_lanes.Goals as goal

pub returns-clause-new : goal.returns-clause-new
returns-clause-new c =
    let made = c.in_ok-new.field-0 in
    lanes_are_new (record { shape = c.in_ok-a_shape.field-0; seed = 0; version = 0; count = 0 }) made.0.about made.1.lanes
    c.in_ok-new.ensures.about c.in_ok-new.ensures.lanes.1
