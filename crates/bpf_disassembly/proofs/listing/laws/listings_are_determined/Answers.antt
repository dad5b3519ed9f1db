use Rattle.bpf_disassembly.proofs.OneListing.{one_listing}
use Rattle.bpf_disassembly.proofs.listing.laws.listings_are_determined.Goals as goal

pub returns : goal.returns
returns c = one_listing
