use Rattle.bpf_buffering.proofs.AtLast.{nothing_waits_at_last as law}
use Rattle.bpf_buffering.proofs.laws.nothing_waits_at_last.Goals as goal

pub returns : goal.returns
returns c = law
