use Rattle.bpf_equal.proofs.Back.{sound_stores_stay_sound as law}
use Rattle.bpf_equal.proofs.laws.sound_stores_stay_sound.Goals as goal

pub returns : goal.returns
returns c = law
