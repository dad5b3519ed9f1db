use Rattle.bpf_buffer_debug.proofs.ScriptCourse.{scripts_make_moves as law}
use Rattle.bpf_buffer_debug.proofs.laws.scripts_make_moves.Goals as goal

pub returns : goal.returns
returns c = law
