use Rattle.bpf_schedule.proofs.MovesBack.{moves_read_back}
use Rattle.bpf_schedule.proofs.moves.moves_are_read_back.Goals as goal

pub returns : goal.returns
returns c = moves_read_back
