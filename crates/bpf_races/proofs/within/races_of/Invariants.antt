use Rattle.bpf_races.specs.Private.Within.{UpTo}
use Rattle.bpf_races.proofs.within.races_of.Given as goal

abbrev pub invariant-loop-cpu : goal.invariant-loop-cpu
invariant-loop-cpu l = UpTo l.situation.machine.now l.situation.sync.now l.situation.nexts.now l.cpu 0 l.races.items
