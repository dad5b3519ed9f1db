use Rattle.bpf_flushes.proofs.OneCourse.{determined}
use Rattle.bpf_flushes.proofs.laws.reports_with_buffers_are_determined.Goals as goal

pub returns : goal.returns
returns c = determined c.moves_are_determined.ensures
