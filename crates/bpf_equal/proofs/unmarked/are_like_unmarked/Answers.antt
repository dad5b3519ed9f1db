use Rattle.std.proofs.Common.{inl, refl}
use Rattle.bpf_equal.proofs.Peering.{one_stage}
use Rattle.bpf_equal.proofs.unmarked.are_like_unmarked.Goals as goal

pub returns-then-wait_alike : goal.returns-then-wait_alike
returns-then-wait_alike c is = (c.args.other.now.stage, c.wait_alike.ensures c.if-wait_alike.true, inl refl)

pub returns : goal.returns
returns c is = (c.args.job.now.stage, one_stage c.args.job.now.stage, inl (c.have_ended_alike.ensures is))
