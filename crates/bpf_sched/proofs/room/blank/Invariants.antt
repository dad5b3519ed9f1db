use Rattle.std.proofs.Common.{◌≡◌, length}
use Rattle.bpf_sched.proofs.room.blank.Given as goal

abbrev pub invariant-loop-job : goal.invariant-loop-job
invariant-loop-job l = length l.ends.items ≡ l._job
