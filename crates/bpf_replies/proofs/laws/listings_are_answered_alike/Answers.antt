use Rattle.bpf_replies.proofs.ListedAgain.{listing_answered}
use Rattle.bpf_replies.proofs.laws.listings_are_answered_alike.Goals as goal

pub returns : goal.returns
returns c = listing_answered c.texts_are_determined.ensures c.listings_assemble_alike.ensures
