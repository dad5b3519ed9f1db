use Rattle.bpf_buffering.proofs.Local.{calls_are_local as law}
use Rattle.bpf_buffering.proofs.laws.calls_are_local.Goals as goal

pub returns : goal.returns
returns c = law
