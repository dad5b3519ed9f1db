use Rattle.bpf_debug.proofs.CourseLaws.{took_more}
use Rattle.bpf_debug.proofs.course.take_back.Goals as goal

pub loop-preserved : goal.loop-preserved
loop-preserved c =
    took_more c.args.runs.now.items c.loop.runs.items c.drop_turn-first.new.runs.items c.loop.counter c.loop.first c.drop_turn-first.result
    c.loop.invariant c.drop_turn-first.ensures
