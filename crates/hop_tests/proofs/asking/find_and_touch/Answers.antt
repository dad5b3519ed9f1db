use Rattle.hop_tests.proofs.Passing.{after_call}
use Rattle.hop_tests.proofs.asking.find_and_touch.Goals as goal

pub returns-in-Some-clause-passes : goal.returns-in-Some-clause-passes
returns-in-Some-clause-passes g c =
    after_call g.S.Shared.passes g.met.S.Shared.follows c.args.shared.now c.lookup.new.self c.touch.new.shared c.lookup.ensures.found c.touch.ensures.passes
