use Rattle.std.proofs.Common.{◌≡◌}
use Rattle.std.specs.Prelude.{map}
use Rattle.bpf_buffering.specs.Jobs.{first_entry}
use Rattle.bpf_buffering.proofs.jobs.list_jobs.Given as goal

abbrev pub invariant-loop-job : goal.invariant-loop-job
invariant-loop-job l = l.list.items ≡ map first_entry l.yielded
