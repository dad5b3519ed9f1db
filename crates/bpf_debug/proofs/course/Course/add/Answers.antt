use Rattle.bpf_debug.proofs.CourseLaws.{keeps_whole}
use Rattle.bpf_debug.proofs.course.Course.add.Goals as goal

pub returns : goal.returns
returns c = keeps_whole c.self.inside.is_whole c.args.self.now c.self.inside.runs.items c.add_turn.new.runs.items c.args.cpu
    c.if-not-self.false c.self.view_is c.in-Ok.ensures
