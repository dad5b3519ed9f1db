use Rattle.bpf_replies.proofs.SeenOnX86.{witnesses_on_x86_are_seen_again as law}
use Rattle.bpf_replies.proofs.laws.witnesses_on_x86_are_seen_again.Goals as goal

pub returns : goal.returns
returns c = law c.files_are_determined.ensures c.files_can_run.ensures c.reports_with_buffers_are_determined.ensures
