use Rattle.bpf_schedule.proofs.ReadBack.{printed_read_back}
use Rattle.bpf_schedule.proofs.reading.printed_is_read_back.Goals as goal

pub returns : goal.returns
returns c = printed_read_back
