use Rattle.bpf_machine.specs.Questions.{turns_left}
use Rattle.bpf_faults.proofs.Watching.{IsWatched}
use Rattle.bpf_faults.proofs.watch.watch.Given as goal

abbrev pub invariant-watching : goal.invariant-watching
invariant-watching l = IsWatched l.fn.machine l.fn.sizes l.machine l.findings.evidence.items

abbrev pub decreases-watching : goal.decreases-watching
decreases-watching l = turns_left l.machine.jobs
