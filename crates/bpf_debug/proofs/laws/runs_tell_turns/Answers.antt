use Rattle.bpf_debug.proofs.CourseLaws.{runs_tell_turns as law}
use Rattle.bpf_debug.proofs.laws.runs_tell_turns.Goals as goal

pub returns : goal.returns
returns c = law
