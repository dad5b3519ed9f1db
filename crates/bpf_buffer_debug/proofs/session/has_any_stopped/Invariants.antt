use Rattle.std.proofs.Common.{◌≡◌}
use Rattle.bpf_jobs.specs.Printed.{any_stopped}
use Rattle.bpf_buffer_debug.proofs.session.has_any_stopped.Given as goal

abbrev pub invariant-loop-job : goal.invariant-loop-job
invariant-loop-job l = l.stopped ≡ any_stopped l.job l.machine.machine.jobs
