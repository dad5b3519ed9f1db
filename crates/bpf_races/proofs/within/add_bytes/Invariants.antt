use Rattle.bpf_races.specs.Private.Within.{Amid}
use Rattle.bpf_races.proofs.within.add_bytes.Given as goal

abbrev pub invariant-loop-at : goal.invariant-loop-at
invariant-loop-at l = Amid l.situation.machine.now l.situation.sync.now l.situation.nexts.now l.pair l.at-items l.at-index l.races.items
