use Rattle.bpf_shared.proofs.Lawful.{legal_is_sound as law}
use Rattle.bpf_shared.proofs.laws.legal_is_sound.Goals as goal

pub returns : goal.returns
returns c = law
