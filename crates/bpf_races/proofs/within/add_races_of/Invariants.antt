use Rattle.bpf_races.specs.Private.Within.{UpTo}
use Rattle.bpf_races.proofs.within.add_races_of.Given as goal

abbrev pub invariant-loop-other : goal.invariant-loop-other
invariant-loop-other l = UpTo l.situation.machine.now l.situation.sync.now l.situation.nexts.now l.cpu l.other l.races.items
