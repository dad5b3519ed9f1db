use Rattle.bpf_races.proofs.Nexts.{NextsBelow}
use Rattle.bpf_races.proofs.next.Watcher.nexts.Given as goal

abbrev pub invariant-loop-cpu : goal.invariant-loop-cpu
invariant-loop-cpu l = NextsBelow l.machine l.nexts.items l.cpu
