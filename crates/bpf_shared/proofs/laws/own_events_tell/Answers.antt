use Rattle.bpf_shared.proofs.Own.{own_events_tell as law}
use Rattle.bpf_shared.proofs.laws.own_events_tell.Goals as goal

pub returns : goal.returns
returns c = law
