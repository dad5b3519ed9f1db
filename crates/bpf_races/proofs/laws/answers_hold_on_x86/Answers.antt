use Rattle.bpf_races.proofs.RaceFree.{answers_hold_on_x86 as law}
use Rattle.bpf_races.proofs.laws.answers_hold_on_x86.Goals as goal

pub returns : goal.returns
returns c = law
