use Rattle.std.proofs.Common.{◌≡◌, take}
use Rattle.std.specs.Prelude.{map}
use Rattle.bpf_machine.specs.Private.Lanes.{empty_job}
use Rattle.bpf_machine.proofs.machine.another.empty_jobs.Given as goal

abbrev pub invariant-loop-job : goal.invariant-loop-job
invariant-loop-job l = l.empty.items ≡ map empty_job (take l.job-index l.jobs)
