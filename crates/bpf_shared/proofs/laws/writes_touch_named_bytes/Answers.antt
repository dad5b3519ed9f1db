use Rattle.bpf_shared.proofs.Lawful.{writes_touch_named_bytes as law}
use Rattle.bpf_shared.proofs.laws.writes_touch_named_bytes.Goals as goal

pub returns : goal.returns
returns c = law
