use Rattle.bpf_flushes.proofs.OneCourse.{reached}
use Rattle.bpf_flushes.proofs.laws.lasts_are_reached.Goals as goal

pub returns : goal.returns
returns c = reached c.nothing_waits_at_last.ensures
