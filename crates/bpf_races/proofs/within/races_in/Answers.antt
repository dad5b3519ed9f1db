use Rattle.std.proofs.Common.{List, sym, subst}
use Rattle.bpf_races.specs.Next.{NextStep}
use Rattle.bpf_races.specs.Private.Searching.{AreNexts}
use Rattle.bpf_races.proofs.within.races_in.Goals as goal

pub races_of-requires : goal.races_of-requires
races_of-requires c = subst (λ (xs : List NextStep). AreNexts c.args.machine.now xs) (sym c.deref.ensures.value) c.in_ok-nexts.ensures
