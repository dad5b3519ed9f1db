use Rattle.bpf_disassembly.proofs.Alike.{assembled_alike}
use Rattle.bpf_disassembly.proofs.listing.laws.listings_assemble_alike.Goals as goal

pub returns : goal.returns
returns c = assembled_alike c.comments_say_nothing.ensures
