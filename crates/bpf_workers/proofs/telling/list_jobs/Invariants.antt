use Rattle.std.proofs.Common.{◌≡◌}
use Rattle.std.specs.Prelude.{map, string_bytes}
use Rattle.bpf_cpu.specs.Task.{waiting}
use Rattle.bpf_jobs.specs.Printed.{job_lines}
use Rattle.bpf_workers.specs.Printed.{as_ended}
use Rattle.bpf_workers.proofs.telling.list_jobs.Given as goal

abbrev pub invariant-loop-job : goal.invariant-loop-job
invariant-loop-job l = string_bytes l.text ≡ job_lines l.job (as_ended (map waiting l.jobs) l.ends)
