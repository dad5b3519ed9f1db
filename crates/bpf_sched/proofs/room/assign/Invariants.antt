use Rattle.std.proofs.Common.{◌≡◌, map, take}
use Rattle.bpf_cpu.specs.Task.{waiting}
use Rattle.bpf_sched.specs.Explained.{jobs_of}
use Rattle.bpf_sched.specs.Working.{assigned}
use Rattle.bpf_sched.proofs.room.assign.Given as goal

abbrev pub invariant-loop-job : goal.invariant-loop-job
invariant-loop-job l = l.list.items ≡ map assigned (jobs_of l.cpu (take l.job-index (map waiting l.jobs)))
