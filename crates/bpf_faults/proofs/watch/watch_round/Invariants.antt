use Rattle.bpf_faults.proofs.Watching.{IsFar}
use Rattle.bpf_faults.proofs.watch.watch_round.Given as goal

abbrev pub invariant-loop-cpu : goal.invariant-loop-cpu
invariant-loop-cpu l = IsFar l.fn.machine l.fn.sizes l.fn.findings.evidence.items l.cpu l.worked l.machine l.findings.evidence.items
