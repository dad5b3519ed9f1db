use Rattle.std.proofs.Common.{map}
use Rattle.bpf_cpu.specs.Task.{waiting}
use Rattle.bpf_sched.specs.Worked.{AreFor}
use Rattle.bpf_sched.proofs.room.enlist.Given as goal

abbrev pub invariant-loop-cpu : goal.invariant-loop-cpu
invariant-loop-cpu l = AreFor l.keys l.maps (map waiting l.jobs) l.cpu l.workers.items
