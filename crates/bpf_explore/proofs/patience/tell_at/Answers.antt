use Rattle.std.proofs.Common.{refl}
use Rattle.bpf_names.specs.Names.{names_of}
use Rattle.bpf_explore.proofs.TellLaws.{has_work}
use Rattle.bpf_explore.proofs.patience.tell_at.Goals as goal

pub returns-then-not-has_ended-clause-answered : goal.returns-then-not-has_ended-clause-answered
returns-then-not-has_ended-clause-answered c is =
    has_work c.args.spread.now.kept (names_of c.args.names.now) c.args.maps c.args.answers.now.items c.args.place (c.if-not-has_ended.ensures.works refl)

pub returns-then-not-has_ended-clause-keeps : goal.returns-then-not-has_ended-clause-keeps
returns-then-not-has_ended-clause-keeps c i found at = (i, at)

pub returns-then-not-has_ended-clause-ends : goal.returns-then-not-has_ended-clause-ends
returns-then-not-has_ended-clause-ends c w first = c.requires.ends w first

pub returns-then-not-has_ended-clause-sorted : goal.returns-then-not-has_ended-clause-sorted
returns-then-not-has_ended-clause-sorted c = c.requires.sorted
