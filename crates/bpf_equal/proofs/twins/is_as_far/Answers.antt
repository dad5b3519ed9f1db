use Rattle.std.proofs.Common.{inl, inr}
use Rattle.bpf_equal.proofs.twins.is_as_far.Goals as goal

pub returns-then-peer : goal.returns-then-peer
returns-then-peer c is = inr (c.if-peer.true, c.are_like_unmarked.ensures is)

pub returns-else-peer : goal.returns-else-peer
returns-else-peer c is = inl (inr (c.are_stages_alike.ensures is))
