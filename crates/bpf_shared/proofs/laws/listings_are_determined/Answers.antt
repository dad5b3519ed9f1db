use Rattle.bpf_shared.proofs.OneListing.{one_listing}
use Rattle.bpf_shared.proofs.laws.listings_are_determined.Goals as goal

pub returns : goal.returns
returns c = one_listing
