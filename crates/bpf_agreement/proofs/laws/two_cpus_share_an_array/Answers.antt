use Rattle.bpf_agreement.proofs.Example.{is_example}
use Rattle.bpf_agreement.proofs.laws.two_cpus_share_an_array.Goals as goal

pub returns : goal.returns
returns c = is_example
