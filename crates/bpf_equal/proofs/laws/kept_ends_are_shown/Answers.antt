use Rattle.bpf_equal.proofs.Covering.{kept_ends_are_shown as law}
use Rattle.bpf_equal.proofs.laws.kept_ends_are_shown.Goals as goal

pub returns : goal.returns
returns c = law
