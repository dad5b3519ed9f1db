use Rattle.bpf_replies.proofs.OneExplored.{outcomes_are_determined as law}
use Rattle.bpf_replies.proofs.laws.outcomes_are_determined.Goals as goal

pub returns : goal.returns
returns c = law c.files_are_determined.ensures
