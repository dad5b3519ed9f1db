use Rattle.std.proofs.Common.{◌≡◌}
use Rattle.std.specs.Prelude.{string_bytes}
use Rattle.bpf_jobs.specs.Printed.{job_lines}
use Rattle.bpf_flushes.proofs.listing.list_jobs.Given as goal

abbrev pub invariant-loop-job : goal.invariant-loop-job
invariant-loop-job l = string_bytes l.text ≡ job_lines l.job l.machine.machine.jobs
