use Rattle.bpf_sched.proofs.Noting.{IsNoted}
use Rattle.bpf_sched.proofs.telling.note.Given as goal

abbrev pub invariant-loop-place : goal.invariant-loop-place
invariant-loop-place l = IsNoted l.cpu l.jobs l.work l.fn.ends l.place l.next l.ends
