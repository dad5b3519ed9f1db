use Rattle.bpf_debug.proofs.Spelled.{scripts_make_turns as law}
use Rattle.bpf_debug.proofs.laws.scripts_make_turns.Goals as goal

pub returns : goal.returns
returns c = law
