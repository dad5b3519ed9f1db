use Rattle.bpf_expand.proofs.Calling as calling
use Rattle.bpf_expand.proofs.laws.calls_close.Goals as goal

pub returns : goal.returns
returns c = calling.calls_close
