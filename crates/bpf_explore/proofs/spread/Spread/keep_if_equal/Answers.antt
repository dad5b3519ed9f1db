use Rattle.std.proofs.Common.{refl}
use Rattle.bpf_explore.proofs.CloseLaws.{grown_itself}
use Rattle.bpf_explore.proofs.spread.Spread.keep_if_equal.Goals as goal

pub returns-then-not-are_one_group-clause-kept : goal.returns-then-not-are_one_group-clause-kept
returns-then-not-are_one_group-clause-kept g c p q group = absurd (c.if-not-are_one_group.ensures.apart refl p q group)

pub returns-then-not-are_one_group-clause-grown : goal.returns-then-not-are_one_group-clause-grown
returns-then-not-are_one_group-clause-grown g c = grown_itself c.args.self.now

pub keep_exchanged-requires-clause-group : goal.keep_exchanged-requires-clause-group
keep_exchanged-requires-clause-group g c = c.if-not-are_one_group.ensures.are refl
