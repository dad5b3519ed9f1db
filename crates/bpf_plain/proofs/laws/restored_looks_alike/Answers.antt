use Rattle.bpf_plain.proofs.Alike.{looks_normal}
use Rattle.bpf_plain.proofs.laws.restored_looks_alike.Goals as goal

pub returns : goal.returns
returns c = looks_normal
