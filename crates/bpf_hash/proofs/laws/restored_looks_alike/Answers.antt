use Rattle.bpf_hash.proofs.Normal.{looks_normal}
use Rattle.bpf_hash.proofs.laws.restored_looks_alike.Goals as goal

pub returns : goal.returns
returns c p bytes saved = looks_normal p saved.0
