use Rattle.std.proofs.Common.{[]}
use Rattle.hop_tests.proofs.Passing.{after_call, one_call}
use Rattle.hop_tests.proofs.asking.begin_next.Goals as goal

pub returns-in-Ok-clause-passes : goal.returns-in-Ok-clause-passes
returns-in-Ok-clause-passes g c =
    after_call g.S.Shared.passes g.met.S.Shared.follows c.args.shared.now c.end.new.self c.begin.new.self c.end.ensures.ended
    (one_call g.S.Shared.passes g.met.S.Shared.follows c.end.new.self c.begin.new.self c.in-Ok.ensures.begun)

pub returns-in-Err-clause-passes : goal.returns-in-Err-clause-passes
returns-in-Err-clause-passes g c =
    after_call g.S.Shared.passes g.met.S.Shared.follows c.args.shared.now c.end.new.self c.begin.new.self c.end.ensures.ended ([], c.in-Err.ensures.unchanged.0)
