use Rattle.std.proofs.Common.{◌≡◌, List, length}
use Rattle.bpf_cpu.specs.Task.{Task}
use Rattle.bpf_jobs.specs.Printed.{any_stopped}
use Rattle.bpf_workers.specs.Printed.{as_ended}
use Rattle.bpf_workers.proofs.telling.has_stopped.Given as goal

abbrev pub invariant-loop-end : goal.invariant-loop-end
invariant-loop-end l = (tasks : List Task) → length tasks ≡ length l.ends → l.stopped ≡ any_stopped l.end-index (as_ended tasks l.ends)
