use Rattle.bpf_helpers.proofs.Binned.{none_binned}
use Rattle.bpf_helpers.proofs.bins.Bins.new.Goals as goal

pub returns : goal.returns
returns c = none_binned
