use Rattle.bpf_shared.proofs.Lawful.{calls_have_one_reply as law}
use Rattle.bpf_shared.proofs.laws.calls_have_one_reply.Goals as goal

pub returns : goal.returns
returns c = law
